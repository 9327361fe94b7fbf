-- What an array holds that a closure made, place by place.
use Rattle.std.proofs.Common.{◌≡◌, ℕ, ◌+◌, ◌<◌, ◌≤◌, List, get_or, zero, suc, sym, subst, ⊎_elim, arith}
use Rattle.std.proofs.lemmas.Bool.{cases_lt}
use denote.Param.Members.{Mut}
use Rattle.std.specs.Fn.{Called}
use Rattle.std.specs.Array.{IsFromFnResultFrom, IsFromFnResult}

made_from : {F B : Type 0} (g : Mut F (ℕ × Unit {0}) B) (P : ℕ → B → Type 0) (f : F) (ys : List B) (d : B)
    → ((i : ℕ) (y : B) (q : F) → Called g f (i, tt) y q → (q ≡ f) × P i y)
    → (n i : ℕ) → IsFromFnResultFrom g f ys i n → (k : ℕ) → i ≤ k → k < i + n → P k (get_or ys k d)
made_from g P f ys d gives zero i made k low high = absurd (omega arith)
made_from g P f ys d gives (suc n) i made k low high =
    let here = gives i made.1 made.0 made.3 in
    ⊎_elim
    (λ later. made_from g P f ys d gives n (i + 1) (subst (λ j. IsFromFnResultFrom g j ys (i + 1) n) here.0 made.4) k (omega arith) (omega arith))
    (λ now.
    let e : i ≡ k = omega arith in
    subst (λ (j : ℕ). P j (get_or ys j d)) e (subst (P i) (sym (made.2.1 d)) here.1))
    (cases_lt i k)

pub from_fn_gives : {F B : Type 0} (g : Mut F (ℕ × Unit {0}) B) (P : ℕ → B → Type 0) (f : F) (ys : List B) (d : B)
    → ((i : ℕ) (y : B) (q : F) → Called g f (i, tt) y q → (q ≡ f) × P i y)
    → (n : ℕ) → IsFromFnResult g f ys n → (k : ℕ) → k < n → P k (get_or ys k d)
from_fn_gives g P f ys d gives n made k h = made_from g P f ys d gives n 0 made.each k (omega arith) (omega arith)
