-- What one turn of a run means for the lines that are printed.
use Rattle.std.proofs.Common.{◌≡◌, ℕ, Bool, true, false, cond, List, [], ◌∷◌, ◌++◌, Some, None, Ok, Err, Option, sym, refl, ap, ◌∙◌, subst, inl, inr, arith}
use Rattle.std.specs.Option.{option_to_list}
use Rattle.refusal.specs.declared.Refusal.TheVariants.{CutShort}
use Rattle.plan.specs.Standing.{Standing}
use Rattle.records.specs.declared.record.Record.{Record}
use Rattle.planfile.specs.declared.turns.Open.{Open}
use Rattle.planfile.specs.declared.faults.RecordFault.{RecordFault}
use Rattle.planfile.specs.declared.faults.FileFault.{FileFault}
use Rattle.planfile.specs.Reading.{open_after}
use Rattle.planfile.specs.Places.{read_at, at_after}
use Rattle.weighing.specs.declared.line.Line.{Line}
use Rattle.weighing.specs.declared.line.Line.TheVariants.{No}
use Rattle.std.specs.declared.ops.ControlFlow.TheVariants.{Continue, Break}
use Rattle.weighing.specs.Pending.{noted}
use Rattle.weighing.specs.Running.{Answer, Takes, fault_place, ends, left_open}
use Rattle.weighing.specs.Running.Prints.{finished, unfinished, faulty, taken, refused, stopped}
use Rattle.weighing.specs.Turns.{State, Turn, PrintsOn, Turned, Carried, Took, filed, last_line, fault_line}

-- a file's fault comes from a record's
from_fault : (place : ℕ) (b : Answer) (g : FileFault) → Err g ≡ filed place b → (f : RecordFault) × (b ≡ Err f) × (g.refusal ≡ f.refusal) × (g.at ≡ place)
from_fault place (Ok line) g e = absurd (let z : ◌≡◌ {A = ℕ} 0 1 = cc in omega arith)
from_fault place (Err f) g e =
    let same : g ≡ record { at = place; kind = Some f.kind; card = f.card; refusal = f.refusal } = cc in
    (f, refl, ap (λ (x : FileFault). x.refusal) same, ap (λ (x : FileFault). x.at) same)

-- a record that is refused and ends the reading
pub took_end : (x : State) (at : ℕ) (r : Record) (s' : Standing) (g : FileFault) (line : Line) → Carried x at r s' (Err g) → ends r g.refusal ≡ true → line ≡ fault_line g → Took x at r s' (Break (Some line))
took_end x at r s' g line c e l =
    let w = from_fault (fault_place x.card at r) c.0 g c.2 in (
      w.0,
      subst (Takes x.plan x.card x.open_now r s') w.1 c.1,
      ap (ends r) (sym w.2) ∙ e,
      ap (λ (y : Line). Some y) l ∙ λ i. Some (No (w.2 i) (w.3 i)),
    )

-- no record can be handed out
pub fault_prints : (bytes : List ℕ) (x : State) (g : FileFault) (line : Line) → Err g ≡ read_at x.open_now x.at bytes → line ≡ fault_line g → PrintsOn bytes x (line ∷ [])
fault_prints bytes x g line e l =
    subst (λ y. PrintsOn bytes x (y ∷ [])) (sym l) (faulty x.plan x.card x.open_now x.at g (sym e))

-- the bytes end
pub end_prints : (bytes : List ℕ) (x : State) (o : Open) (line : Option Line) → Ok None ≡ read_at x.open_now x.at bytes → o ≡ x.open_now → line ≡ last_line o x.card → PrintsOn bytes x (option_to_list line)
end_prints bytes x o line e same l =
    let P : Bool → Type 0 = λ b. left_open x.open_now ≡ b → PrintsOn bytes x (option_to_list (cond b (Some (No CutShort x.card.at)) None)) in
    let go : (b : Bool) → P b = elim [ true ↦ λ t. unfinished x.plan x.card x.open_now x.at (sym e) t | false ↦ λ f. finished x.plan x.card x.open_now x.at (sym e) f ] in
    let ends_so : PrintsOn bytes x (option_to_list (last_line x.open_now x.card)) = go (left_open x.open_now) refl in
    subst (λ y. PrintsOn bytes x (option_to_list y)) (sym (l ∙ ap (λ y. last_line y x.card) same)) ends_so

-- A record r was read at a place: x stands before it, and the run stands after it with the plan s'.
module _ (bytes : List ℕ) (x : State) (r : Record) (s' : Standing) (here : Ok (Some r) ≡ read_at x.open_now x.at bytes) where
  abbrev pub read : State
  read = record { plan = x.plan; card = noted x.card x.at r; open_now = open_after x.open_now r; at = at_after x.at (Ok (Some r)) }

  abbrev pub after : State
  after = record { plan = s'; card = noted x.card x.at r; open_now = open_after x.open_now r; at = at_after x.at (Ok (Some r)) }

  turned_after : (t : Turn) → Took read x.at r s' t → Turned bytes x after t
  turned_after (Continue line) (inl ok) = (λ rest on. taken x.plan x.card x.open_now x.at r s' line rest (sym here) ok on, omega arith)
  turned_after (Continue line) (inr no_line) = (
    λ rest on.
        subst (λ l. PrintsOn bytes x (option_to_list l ++ rest)) (sym no_line.3)
        (refused x.plan x.card x.open_now x.at r s' no_line.0 rest (sym here) no_line.1 no_line.2 on),
    omega arith,
  )
  turned_after (Break line) w =
      subst (λ l. PrintsOn bytes x (option_to_list l)) (sym w.3)
      (stopped x.plan x.card x.open_now x.at r s' w.0 (sym here) w.1 w.2)

  -- w is where the run stands when the record is carried out, and x' where it stands afterwards
  pub turned : (w x' : State) (at : ℕ) (t : Turn) → at ≡ x.at → w.plan ≡ x.plan → w.card ≡ noted x.card at r → w.open_now ≡ open_after x.open_now r → w.at ≡ at_after x.at (Ok (Some r)) → x'.plan ≡ s' → x'.card ≡ w.card → x'.open_now ≡ w.open_now → x'.at ≡ w.at → Took w at r s' t → Turned bytes x x' t
  turned w x' at t place plan card state moved plan' card' state' moved' took =
      let noted_here = card ∙ ap (λ n. noted x.card n r) place in
      let before : w ≡ read = λ i. record { plan = plan i; card = noted_here i; open_now = state i; at = moved i } in
      let afterwards : x' ≡ after = λ i. record { plan = plan' i; card = (card' ∙ noted_here) i; open_now = (state' ∙ state) i; at = (moved' ∙ moved) i } in
      let took_here : Took read x.at r s' t = subst (λ n. Took read n r s' t) place (subst (λ y. Took y at r s' t) before took) in
      subst (λ y. Turned bytes x y t) (sym afterwards) (turned_after t took_here)
