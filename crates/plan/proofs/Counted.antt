-- What the cards that are counted from a history keep, whatever its calls.
use Rattle.std.proofs.Common.{◌≡◌, ℕ, Bool, true, false, ◌||◌, eqb, List, [], ◌∷◌, length, is_some, Some, None, Option, sym, refl, ap, ◌∙◌}
use Rattle.std.specs.List.{AllByRecursion as All}
use Rattle.std.proofs.lemmas.Bool.{and_parts, and_from, or_parts, not-false, eqb-true, eqb-false, cond_both}
use Rattle.refusal.specs.declared.Refusal.{Refusal}
use Rattle.refusal.specs.Numbers.{Check, first_of}
use Rattle.ladder.specs.Rungs.{rung_speed}
use Rattle.engine.specs.Limits.{between, cost_ok, every}
use Rattle.deck.specs.Tables.{Crank, Clock, right_card}
use Rattle.deck.specs.Cards.{Cards}
use Rattle.deck.specs.Calls.{engine_checks, crank_checks, clock_checks, recost_checks, cut_checks, rung_cut_checks, crank_at, clock_at, in_use, clock_ok, no_cut, no_rung_cut, crank_recosted, clock_recosted, crank_cut, with_cranks, with_clocks, with_rung_cut, with_cut}
use Rattle.deck.proofs.Refused.{none_some}
use Rattle.deck.proofs.Rights.{every_insert, every_without, every_change, every_none, recosted_right, cut_card_right}
use Rattle.deck.proofs.Sound.{Sound, crank_ok}
use Rattle.plan.specs.Standing.{Standing}
use Rattle.plan.specs.History.{Change, set_engine, add_engine_card, add_timed_card, recost, cut, rung_cut, drop_card, change_refused, with_change, Call, change, judge, tell, seal, mark, Answer, History, refusal_of, left, counted}
use Rattle.plan.proofs.Apart.{Fresh, Apart, find_fresh, apart_crank, apart_clock, apart_cranks, apart_clocks, apart_crank_out, apart_clock_out}

-- a call that is refused nothing passed every check
pub passed : (cs : List Check) → first_of cs ≡ None → All (λ c. c.holds ≡ false) cs
passed [] h = tt
passed (c ∷ cs) h =
    let P : Bool → Type 0 = λ b. elim b [ true ↦ Some c.gives | false ↦ first_of cs ] ≡ None → (b ≡ false) × All (λ x. x.holds ≡ false) cs in
    elim c.holds as P [ true ↦ λ e. absurd (none_some (sym e)) | false ↦ λ e. (refl, passed cs e) ] h

none_found : {X : Type 0} (o : Option X) → is_some o ≡ false → o ≡ None
none_found None h = refl
none_found (Some x) h = absurd (Rattle.std.proofs.lemmas.Bool.true≢false h)

-- ---- numbers stay apart
record Unused (s : Cards) (n : ℕ) : Type 0 where
  some : n ≡ 0 → ⊥
  cranks : Fresh (λ (c : Crank). c.number) n s.cranks
  clocks : Fresh (λ (c : Clock). c.number) n s.clocks

unused : (s : Cards) (n : ℕ) → (eqb n 0 || in_use s n) ≡ false → Unused s n
unused s n h =
    let one = or_parts (eqb n 0) (in_use s n) h in
    let two = or_parts (is_some (crank_at s n)) (is_some (clock_at s n)) one.1 in
    record {
      some = eqb-false n 0 one.0;
      cranks = find_fresh (λ (c : Crank). c.number) n s.cranks (none_found (crank_at s n) two.0);
      clocks = find_fresh (λ (c : Clock). c.number) n s.clocks (none_found (clock_at s n) two.1);
    }

cut_apart : (s : Cards) → Apart s → (n : ℕ) (speed : Option ℕ) → Apart (with_rung_cut s n speed)
cut_apart s a n None = a
cut_apart s a n (Some speed) = apart_cranks s a n (crank_cut speed) (λ c. refl)

pub change_apart : (s : Cards) (c : Change) → change_refused s c ≡ None → Apart s → Apart (with_change s c)
change_apart s (set_engine e) h a = record {
  cranks = a.cranks;
  clocks = a.clocks;
  crank_numbers = a.crank_numbers;
  clock_numbers = a.clock_numbers;
  across = a.across;
}
change_apart s (add_engine_card c) h a =
    let new = unused s c.number (passed (crank_checks s c) h).0 in
    apart_crank s a c new.some new.cranks new.clocks
change_apart s (add_timed_card c) h a =
    let new = unused s c.number (passed (clock_checks s c) h).0 in
    apart_clock s a c new.some new.cranks new.clocks
change_apart s (recost n index cost) h a =
    cond_both (is_some (crank_at s n)) _ _ Apart (λ _. apart_cranks s a n (crank_recosted index cost) (λ c. refl)) (λ _. apart_clocks s a n (clock_recosted cost) (λ c. refl))
change_apart s (cut n speed) h a = cut_apart s a n (Some speed)
change_apart s (rung_cut n rung) h a = cut_apart s a n (rung_speed rung)
change_apart s (drop_card n) h a =
    cond_both (is_some (crank_at s n)) _ _ Apart (λ _. apart_crank_out s a n) (λ _. apart_clock_out s a n)

-- ---- cards stay sound
module _ (s : Cards) (ok : Sound s) where
  with_cranks_sound : (cs : List Crank) → every (crank_ok s.engine) cs ≡ true → Sound (with_cranks s cs)
  with_cranks_sound cs h = record { engine = ok.engine; cranks = h; clocks = ok.clocks }

  with_clocks_sound : (cs : List Clock) → every clock_ok cs ≡ true → Sound (with_clocks s cs)
  with_clocks_sound cs h = record { engine = ok.engine; cranks = ok.cranks; clocks = h }

  recost_sound : (index cost : ℕ) → cost_ok cost ≡ true → (c : Crank) → crank_ok s.engine c ≡ true → crank_ok s.engine (crank_recosted index cost c) ≡ true
  recost_sound index cost good c h =
      let parts = and_parts (right_card s.engine c) _ h in
      and_from _ _ (recosted_right s.engine c index cost good parts.0) parts.1

  clock_sound : (cost : ℕ) → cost_ok cost ≡ true → (c : Clock) → clock_ok c ≡ true → clock_ok (clock_recosted cost c) ≡ true
  clock_sound cost good c h =
      let one = and_parts (between 1 100000000 c.period) _ h in
      let two = and_parts (between 1 c.period c.deadline) _ one.1 in
      and_from _ _ one.0 (and_from _ _ two.0 good)

  cut_sound : (n speed : ℕ) → no_cut s.engine (crank_at s n) speed ≡ false → Sound (with_cut s n speed)
  cut_sound n speed h =
      with_cranks_sound _
      (every_change (crank_ok s.engine) (λ x. x.number) n (crank_cut speed) s.cranks
      (λ c found good.
      let parts = and_parts (right_card s.engine c) _ good in
      and_from _ _ (cut_card_right s.engine c speed (sym (ap (λ o. no_cut s.engine o speed) found) ∙ h) parts.0) parts.1)
      ok.cranks)

  rung_sound : (n : ℕ) (speed : Option ℕ) → no_rung_cut s.engine (crank_at s n) speed ≡ false → Sound (with_rung_cut s n speed)
  rung_sound n None h = ok
  rung_sound n (Some speed) h = cut_sound n speed h

pub change_sound : (s : Cards) (c : Change) → change_refused s c ≡ None → Sound s → Sound (with_change s c)
change_sound s (set_engine e) h ok =
    let fine = passed (engine_checks s e) h in
    let none = and_parts (eqb (length s.cranks) 0) (eqb (length s.clocks) 0) (not-false _ fine.0) in
    record {
      engine = not-false _ fine.1.0;
      cranks = every_none (crank_ok e) s.cranks (eqb-true (length s.cranks) 0 none.0);
      clocks = ok.clocks;
    }
change_sound s (add_engine_card c) h ok =
    let fine = passed (crank_checks s c) h in
    let right = and_from _ _ (not-false _ fine.1.1.0) (and_from _ _ (not-false _ fine.1.1.1.0) (not-false _ fine.1.1.1.1.0)) in
    with_cranks_sound s ok _ (every_insert (crank_ok s.engine) (λ x. x.number) c s.cranks (and_from _ _ right (not-false _ fine.1.1.1.1.1.0)) ok.cranks)
change_sound s (add_timed_card c) h ok =
    let fine = passed (clock_checks s c) h in
    with_clocks_sound s ok _ (every_insert clock_ok (λ x. x.number) c s.clocks (not-false _ fine.1.1.0) ok.clocks)
change_sound s (recost n index cost) h ok =
    let good = not-false _ (passed (recost_checks s n index cost) h).1.1.0 in
    cond_both (is_some (crank_at s n)) _ _ Sound
    (λ _. with_cranks_sound s ok _ (every_change (crank_ok s.engine) (λ x. x.number) n (crank_recosted index cost) s.cranks (λ c _ fine. recost_sound s ok index cost good c fine) ok.cranks))
    (λ _. with_clocks_sound s ok _ (every_change clock_ok (λ x. x.number) n (clock_recosted cost) s.clocks (λ c _ fine. clock_sound s ok cost good c fine) ok.clocks))
change_sound s (cut n speed) h ok = cut_sound s ok n speed (passed (cut_checks s n speed) h).1.0
change_sound s (rung_cut n rung) h ok = rung_sound s ok n (rung_speed rung) (passed (rung_cut_checks s n (rung_speed rung)) h).1.0
change_sound s (drop_card n) h ok =
    cond_both (is_some (crank_at s n)) _ _ Sound
    (λ _. with_cranks_sound s ok _ (every_without (crank_ok s.engine) (λ x. x.number) n s.cranks ok.cranks))
    (λ _. with_clocks_sound s ok _ (every_without clock_ok (λ x. x.number) n s.clocks ok.clocks))

-- ---- so of all that is counted
module _ (P : Cards → Type 0) (keeps : (s : Cards) (c : Change) → change_refused s c ≡ None → P s → P (with_change s c)) where
  left_keeps : (s : Standing) (r : Option Refusal) (call : Call) (a : Answer) → refusal_of s.cards call ≡ r → P s.cards → P (left s r call a).cards
  left_keeps s (Some r) call a e p = p
  left_keeps s None (change c) a e p = keeps s.cards c e p
  left_keeps s None (judge g horizon work totals) a e p = p
  left_keeps s None (tell g n window work jobs) a e p = p
  left_keeps s None seal a e p = p
  left_keeps s None mark a e p = p

  counted_keeps : P (counted []).cards → (h : History) → P (counted h).cards
  counted_keeps new [] = new
  counted_keeps new (e ∷ h) =
      left_keeps (counted h) (refusal_of (counted h).cards e.call) e.call e.answer refl (counted_keeps new h)

pub counted_apart : (h : History) → Apart (counted h).cards
counted_apart =
    counted_keeps Apart change_apart (record { cranks = tt; clocks = tt; crank_numbers = tt; clock_numbers = tt; across = tt })

pub counted_sound : (h : History) → Sound (counted h).cards
counted_sound = counted_keeps Sound change_sound (record { engine = refl; cranks = refl; clocks = refl })
