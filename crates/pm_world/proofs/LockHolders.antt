-- A LOCK THAT IS REFUSED IS ANOTHER LANE'S: where no other lane holds a line's lock, its word
-- tells of
-- the trying lane alone.
use Rattle.std.proofs.Common.{◌≡◌, ◌≢◌, ◌⊎◌, inl, inr, ⊎_elim, ℕ, zero, suc, ◌+◌, ◌-◌, ◌^◌, ◌<◌}
use Rattle.std.proofs.Common.{◌≤◌}
use Rattle.std.proofs.Common.{Bool, true, false, cond, not, ◌==◌, ◌&&◌}
use Rattle.std.proofs.Common.{refl, sym, ap, ◌∙◌, subst, arith, lt-ltb, eq-eqb, None, Some}
use Rattle.std.specs.Int.{bit_at}
use Rattle.std.proofs.lemmas.Bool.{cases_eq, cases_lt, cases_Bool, eqb-true, both_ways, and_parts}
use Rattle.std.proofs.lemmas.Bool.{or_parts, false_from_ne_true}
use Rattle.std.proofs.lemmas.Nat.Bits.{bit_at-zero, bit_at-pow_same, bit_at-pow_other}
use Rattle.std.proofs.lemmas.Nat.Bits.{same_from_bits}
use Rattle.std.proofs.lemmas.Option.{none-some}
use Rattle.pm_view.specs.Claims.{locked, reads, holds}
use Rattle.pm_view.specs.LockWords.{reader_bit, writer_bit, with_writer, with_reader, with_raised}
use Rattle.pm_view.specs.Steps.Step.{Load, Store, Or, And, Flush, Drain, TakeWrite, TakeRead}
use Rattle.pm_view.specs.Steps.Step.{Raise, Give, ZoneTry, ZoneGive, Occupied, Occupy, Vacate}
use Rattle.pm_view.specs.Steps.Step.{Draw, NumberSeen, StopSeen, SetStop, Tell}
use Rattle.pm_world.specs.Memory.{Memory, LockWord, bit}
use Rattle.pm_world.specs.Moves.{Moves}
use Rattle.pm_world.specs.World.{Opening, Views, Past, World}
use Rattle.pm_world.specs.CauseLaws.{RefusalShowsLock}
use Rattle.pm_world.proofs.LockBits.{clear_at}

module _ (o : Opening) (mem : Memory) (views : Views) (g : Past) (x : World o mem views g) (k : ℕ)
    (ink : k < o.lanes) (l : ℕ) where
  abbrev word : ℕ
  word = mem (LockWord l)

  abbrev Other : Type 0
  Other = (j : ℕ) × (j ≢ k) × (j < o.lanes) × (holds (views j).claims l ≡ true)

  -- one of the first n lanes holds it, or none of them
  look : (n : ℕ) → n ≤ o.lanes
      → Other ⊎ ((j : ℕ) → j < n → j ≢ k → holds (views j).claims l ≡ false)
  look zero m = inr (λ j a ne. absurd (omega arith))
  look (suc n) m = ⊎_elim (λ (y : Other). inl y)
      (λ (y : (j : ℕ) → j < n → j ≢ k → holds (views j).claims l ≡ false).
      ⊎_elim (λ (e : n ≡ k). inr (λ j a ne. y j (omega arith) ne))
      (λ (ne : n ≢ k). ⊎_elim
      (λ (h : holds (views n).claims l ≡ true). inl (n, ne, omega arith, h))
      (λ (h : holds (views n).claims l ≡ false). inr (λ j a other. ⊎_elim
      (λ (q : j ≡ n). ap (λ i. holds (views i).claims l) q ∙ h)
      (λ (q : j ≢ n). y j (omega arith) other) (cases_eq j n)))
      (cases_Bool (holds (views n).claims l))) (cases_eq n k)) (look n (omega arith))

  module _ (none_ : (j : ℕ) → j < o.lanes → j ≢ k → holds (views j).claims l ≡ false) where
    not_held : (j : ℕ) → j ≢ k → holds (views j).claims l ≡ false
    not_held j ne = ⊎_elim (λ (a : j < o.lanes). none_ j a ne)
        (λ (a : o.lanes ≤ j). ap (λ t. holds t l) (x.idle_beyond j a).2) (cases_lt j o.lanes)

    clear : (b : ℕ) → b ≢ k → locked (views k).claims l ≡ false → bit_at word b ≡ 0
    clear b ne free = clear_at word b (⊎_elim
        (λ (a : b < 32). sym (ap (λ t. t && bit word b) (lt-ltb b 32 a))
        ∙ ((x.bits.each_lane b).hold.reading l
        ∙ (or_parts (locked (views b).claims l) (reads (views b).claims l) (not_held b ne)).1))
        (λ (a : 32 ≤ b). let j = b - 32 in let e : 32 + j ≡ b = omega arith in
        sym (ap (bit word) e) ∙ ((x.bits.each_lane j).hold.locks l ∙ ⊎_elim
        (λ (q : j ≡ k). ap (λ i. locked (views i).claims l) q ∙ free)
        (λ (q : j ≢ k). (or_parts (locked (views j).claims l) (reads (views j).claims l)
        (not_held j q)).0)
        (cases_eq j k))) (cases_lt b 32))

    own_reader : bit word k ≡ reads (views k).claims l
    own_reader = let few = x.few_lanes in
        sym (ap (λ t. t && bit word k) (lt-ltb k 32 (omega arith)))
        ∙ (x.bits.each_lane k).hold.reading l

    -- the word is 0 where the lane has no such lock, and its reader's bit where it reads
    zero_word : holds (views k).claims l ≡ false → word ≡ 0
    zero_word free = let u =
        or_parts (locked (views k).claims l) (reads (views k).claims l) free in
        same_from_bits word 0 (λ b. ⊎_elim
        (λ (q : b ≡ k). clear_at word b (ap (bit word) q ∙ (own_reader ∙ u.1)))
        (λ (ne : b ≢ k). clear b ne u.0) (cases_eq b k) ∙ sym (bit_at-zero b))

    reader_word : reads (views k).claims l ≡ true → word ≡ reader_bit k
    reader_word e =
        let free : locked (views k).claims l ≡ false =
        false_from_ne_true (locked (views k).claims l)
        (λ q. both_ways (reads (views k).claims l) (sym ((x.bits.each_lane k).hold.reading l)
        ∙ (x.bits.alone l k ((x.bits.each_lane k).hold.locks l ∙ q) k).0) e) in
        same_from_bits word (2 ^ k) (λ b. ⊎_elim
        (λ (q : b ≡ k). ap (bit_at word) q ∙ (eqb-true (bit_at word k) 1 (own_reader ∙ e)
        ∙ (sym (bit_at-pow_same k) ∙ ap (bit_at (2 ^ k)) (sym q))))
        (λ (ne : b ≢ k). clear b ne free ∙ sym (bit_at-pow_other k b ne)) (cases_eq b k))

  -- a word that is neither is another lane's
  pub other_of_free : holds (views k).claims l ≡ false → (word ≡ 0 → ⊥) → Other
  other_of_free free ne = ⊎_elim (λ (y : Other). y)
      (λ (y : (j : ℕ) → j < o.lanes → j ≢ k → holds (views j).claims l ≡ false).
      absurd (ne (zero_word y free)))
      (look o.lanes (omega arith))

  pub other_of_reader : reads (views k).claims l ≡ true → (word ≡ reader_bit k → ⊥) → Other
  other_of_reader e ne = ⊎_elim (λ (y : Other). y)
      (λ (y : (j : ℕ) → j < o.lanes → j ≢ k → holds (views j).claims l ≡ false).
      absurd (ne (reader_word y e)))
      (look o.lanes (omega arith))

-- the tried line is this one, and the try was refused
tried : (m l : ℕ) (won : Bool) → ((m == l) && not won) ≡ true → (m ≡ l) × (won ≡ false)
tried m l true e = absurd (both_ways false refl (sym (never (m == l)) ∙ e))
  where
    never : (t : Bool) → (t && false) ≡ false
    never true = refl
    never false = refl
tried m l false e = (eqb-true m l (and_parts (m == l) true e).0, refl)

raised_own : (k : ℕ) → with_raised k (reader_bit k) ≡ Some (writer_bit k)
raised_own k = ap
    (λ t. cond t (Some (writer_bit k)) None) (eq-eqb (reader_bit k) (reader_bit k) refl)

pub refusal_shows_lock : RefusalShowsLock
refusal_shows_lock o old new views g k (TakeWrite m won) l x ink law moves e = let q =
    tried m l won e in
    subst (λ n. (j : ℕ) × (j ≢ k) × (j < o.lanes) × (holds (views j).claims n ≡ true)) q.0
    (other_of_free o old views g x k ink m law.allowed.free
    (λ z. none-some (writer_bit k) (sym (subst (λ w. Moves k (TakeWrite m w) old new) q.1 moves).1
    ∙ ap (with_writer k) z)))
refusal_shows_lock o old new views g k (TakeRead m won) l x ink law moves e = let q =
    tried m l won e in
    subst (λ n. (j : ℕ) × (j ≢ k) × (j < o.lanes) × (holds (views j).claims n ≡ true)) q.0
    (other_of_free o old views g x k ink m law.allowed.free
    (λ z. none-some (Rattle.std.specs.Prelude.bit_or 0 (reader_bit k))
    (sym (subst (λ w. Moves k (TakeRead m w) old new) q.1 moves).1 ∙ ap (with_reader k) z)))
refusal_shows_lock o old new views g k (Raise m won) l x ink law moves e = let q =
    tried m l won e in
    subst (λ n. (j : ℕ) × (j ≢ k) × (j < o.lanes) × (holds (views j).claims n ≡ true)) q.0
    (other_of_reader o old views g x k ink m law.allowed.held
    (λ z. none-some (writer_bit k) (sym (subst (λ w. Moves k (Raise m w) old new) q.1 moves).1
    ∙ (ap (with_raised k) z ∙ raised_own k))))
refusal_shows_lock o old new views g k (Load w y) l x ink law moves e =
    absurd (both_ways false refl e)
refusal_shows_lock o old new views g k (Store w y) l x ink law moves e =
    absurd (both_ways false refl e)
refusal_shows_lock o old new views g k (Or w bits found) l x ink law moves e =
    absurd (both_ways false refl e)
refusal_shows_lock o old new views g k (And w bits found) l x ink law moves e =
    absurd (both_ways false refl e)
refusal_shows_lock o old new views g k (Flush line) l x ink law moves e =
    absurd (both_ways false refl e)
refusal_shows_lock o old new views g k Drain l x ink law moves e = absurd (both_ways false refl e)
refusal_shows_lock o old new views g k (Give line) l x ink law moves e =
    absurd (both_ways false refl e)
refusal_shows_lock o old new views g k (ZoneTry zone won) l x ink law moves e =
    absurd (both_ways false refl e)
refusal_shows_lock o old new views g k (ZoneGive zone) l x ink law moves e =
    absurd (both_ways false refl e)
refusal_shows_lock o old new views g k (Occupied at found) l x ink law moves e =
    absurd (both_ways false refl e)
refusal_shows_lock o old new views g k (Occupy at bits won) l x ink law moves e =
    absurd (both_ways false refl e)
refusal_shows_lock o old new views g k (Vacate at bits) l x ink law moves e =
    absurd (both_ways false refl e)
refusal_shows_lock o old new views g k (Draw n) l x ink law moves e =
    absurd (both_ways false refl e)
refusal_shows_lock o old new views g k (NumberSeen n) l x ink law moves e =
    absurd (both_ways false refl e)
refusal_shows_lock o old new views g k (StopSeen set) l x ink law moves e =
    absurd (both_ways false refl e)
refusal_shows_lock o old new views g k SetStop l x ink law moves e =
    absurd (both_ways false refl e)
refusal_shows_lock o old new views g k (Tell operation reply) l x ink law moves e =
    absurd (both_ways false refl e)
