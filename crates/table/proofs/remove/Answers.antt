-- The part from the item on is turned down by one.
use Rattle.std.proofs.Common.{◌-◌, ◌∙◌, arith}
use Rattle.std.proofs.lemmas.List.{length-take, length-drop}
use Rattle.std.proofs.lemmas.Slice.{drop-put_mid}
use Rattle.table.proofs.remove.Goals as goal
use Rattle.table.proofs.Moved.{turned_down}

pub returns-then-used-table : goal.returns-then-used-table
returns-then-used-table g c = record {
  items = λ a u.
      turned_down c.args.table.now c.args.at c.args.used c.rotate_left.new.self a u c.rotate_left.ensures.after;
  rest = λ a u.
      drop-put_mid c.args.at (c.args.used - c.args.at) c.args.table.now c.rotate_left.new.self c.args.used (omega arith) (omega arith)
      (c.rotate_left.ensures.len ∙ simp (length-take, length-drop) (omega arith));
  past = λ u. absurd (omega arith);
  long = λ u. absurd (omega arith);
}
