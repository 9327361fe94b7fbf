use Rattle.std.proofs.Common.{refl, ap}
use Rattle.plan.specs.Standing.{stands}
use Rattle.weighing.specs.Turns.{state_of}
use Rattle.weighing.proofs.Turning.{fault_prints, end_prints, turned}
use Rattle.weighing.proofs.state.Run.turn.Goals as goal

pub returns-in_ok-note-in-Ok-Some-clause-turned : goal.returns-in_ok-note-in-Ok-Some-clause-turned
returns-in_ok-note-in-Ok-Some-clause-turned c =
    let run = c.args.self.now in
    let read = rw c.in-Ok-Some.field-0-is at c.in-Ok-Some.ensures in
    let told = c.taken.ensures in
    let before = state_of (record { reader = c.next.new.self; scales = run.scales; card = c.note.new.self }) in
    turned run.reader.bytes.now (state_of run) c.in-Ok-Some.record (stands c.taken.new.self.scales.plan) read.what before (state_of c.taken.new.self) c.at-at.result c.taken.result c.at-at.ensures refl c.in_ok-note-in-Ok-Some.ensures read.state read.place refl told.card (ap (λ rd. rd.state) told.reader) (ap (λ rd. rd.at) told.reader) told.turn

pub returns-in-Ok-None-clause-turned : goal.returns-in-Ok-None-clause-turned
returns-in-Ok-None-clause-turned c =
    let run = c.args.self.now in
    let read = rw c.in-Ok-None.field-0-is at c.in-Ok-None.ensures in
    end_prints run.reader.bytes.now (state_of run) c.next.new.self.state c.last_line.result read.what read.state c.last_line.ensures

pub returns-in-Err-clause-turned : goal.returns-in-Err-clause-turned
returns-in-Err-clause-turned c =
    let run = c.args.self.now in
    fault_prints run.reader.bytes.now (state_of run) c.in-Err.fault c.from.result c.in-Err.ensures.what c.from.ensures
