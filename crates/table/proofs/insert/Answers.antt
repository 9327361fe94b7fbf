-- The part from the place on is turned up by one, and the item put at the place.
use Rattle.std.proofs.Common.{◌≡◌, ◌+◌, ◌-◌, length, sym, ◌∙◌, arith}
use Rattle.std.proofs.lemmas.List.{length-take, length-drop, drop-set-lt}
use Rattle.std.proofs.lemmas.Slice.{drop-put_mid}
use Rattle.table.proofs.insert.Goals as goal
use Rattle.table.proofs.Moved.{turned_up}
use Rattle.table.proofs.Ordered.{insert_by_used}

pub returns-then-used-table : goal.returns-then-used-table
returns-then-used-table g c =
    let xs = c.args.table.now in
    let used = c.args.used in
    let at = c.place-at.result in
    let place = c.place-at.ensures in
    let turned = c.rotate_right.new.self in
    let l : length turned ≡ used + 1 - at = c.rotate_right.ensures.len ∙ simp (length-take, length-drop) (omega arith) in
    record {
      items = λ u.
          turned_up xs at used c.args.item turned place.within u c.rotate_right.ensures.after
          ∙ sym (insert_by_used g.T.Keyed.key c.args.item c.key.result used xs at c.key.ensures (omega arith) place.within place.before place.next);
      rest = λ u.
          drop-set-lt (used + 1) _ at c.args.item (omega arith)
          ∙ drop-put_mid at (used + 1 - at) xs turned (used + 1) (omega arith) (omega arith) l;
      full = λ u. absurd (omega arith);
    }
