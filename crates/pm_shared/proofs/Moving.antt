-- What each call of the table does to the memory is what the lane's step does to it.
use Rattle.std.proofs.Common.{◌≡◌, ◌≢◌, ℕ, ◌+◌, ◌-◌, ◌*◌, ◌/◌, ◌%◌, ◌^◌, ◌<◌, ⊎_elim, nat_lt, List, length, slice_index, set, true, false, not, ◌&&◌, eqb, ◌==◌, bit_and, bit_or, Option, Some, refl, sym, ap, ◌∙◌, subst, arith, eq-eqb, ne_eqb}
use Rattle.std.specs.Int.{bit_at, bit_not, w64}
use Rattle.std.proofs.lemmas.Bool.{cases_eq, cases_Bool, eqb-true, both_ways, or_cases}
use Rattle.std.proofs.lemmas.Nat.Bits.{bit_at_and, bit_at_or, bit_at_above, bit_at-lt, bit_at-zero, bit_at-pow_same, bit_at-pow_other, bit_at_cat_high, and_pow, same_from_bits}
use prog.Atomic.{either}
use Rattle.pm_layout.specs.declared.shape.Shape.{Shape}
use Rattle.pm_view.specs.declared.occ.Occ.{Occ}
use Rattle.pm_view.specs.declared.occ.Occ.TheVariants.{Run, Zone}
use Rattle.pm_view.specs.Claims.{locked, reads, holds}
use Rattle.pm_view.specs.LockWords.{reader_bit, writer_bit, with_writer, with_reader, with_raised, without_lane}
use Rattle.pm_view.specs.Steps.{Step}
use Rattle.pm_view.specs.Steps.Step.{Load, Store, Or, And, TakeWrite, TakeRead, Raise, Give, ZoneTry, ZoneGive, Occupied, Occupy, Vacate, Draw, NumberSeen, StopSeen, SetStop}
use Rattle.pm_view.specs.View.{View}
use Rattle.pm_world.specs.Memory.{Location, PoolWord, LockWord, ZoneLock, CommitCounter, StopWord, IsSame, IsSameBut, occ_at, bit}
use Rattle.pm_world.specs.Moves.{Moves}
use Rattle.pm_world.specs.World.{Opening}
use Rattle.pm_shared.specs.Placing.{table_size, place, pulse_place, lock_said, said, memory_of}
use Rattle.pm_shared.specs.Rule.{Bound}
use Rattle.pm_shared.proofs.Tables.{becomes, stays, pulses}
use Rattle.pm_shared.proofs.Allows.{Before}
use Rattle.pm_shared.proofs.LockSaid.{said_low, said_high, high_part, writer_left, left_clear, write_won, write_lost, read_won, read_lost, read_same, raise_won, raise_lost, reader_gave, writer_gave}

-- the call is at this location's word of the table
pub record At (sh : Shape) (words : List ℕ) (i : ℕ) (at : Location) : Type 0 where
  pub is : i ≡ place sh at
  pub inside : place sh at < table_size sh
  pub size : length words ≡ table_size sh

module _ (sh : Shape) (words : List ℕ) (i : ℕ) (at : Location) (A : At sh words i at) where
  pub found_at : memory_of sh words at ≡ said at (slice_index words i)
  found_at = ap (λ j. said at (slice_index words j)) (sym A.is)

  pub turns_to : (x : ℕ) → IsSameBut at (memory_of sh words) (memory_of sh (set words i x)) × (memory_of sh (set words i x) at ≡ said at x)
  turns_to x = subst (λ j. IsSameBut at (memory_of sh words) (memory_of sh (set words j x)) × (memory_of sh (set words j x) at ≡ said at x)) (sym A.is) (becomes sh words x at A.inside A.size)

  pub stays_at : (x : ℕ) → said at x ≡ said at (slice_index words i) → IsSame (memory_of sh words) (memory_of sh (set words i x))
  stays_at x same = subst (λ j. IsSame (memory_of sh words) (memory_of sh (set words j x))) (sym A.is) (stays sh words x at A.inside A.size (same ∙ sym found_at))

module _ (sh : Shape) (words : List ℕ) (i k : ℕ) where
  X : ℕ
  X = slice_index words i

  abbrev Does : Step → ℕ → Type 0
  Does s x = Moves k s (memory_of sh words) (memory_of sh (set words i x))

  pub load_moves : (w : ℕ) → At sh words i (PoolWord w) → Does (Load w (slice_index words i)) (slice_index words i)
  load_moves w A = (stays_at sh words i (PoolWord w) A (slice_index words i) refl, sym (found_at sh words i (PoolWord w) A))

  pub store_moves : (w x : ℕ) → At sh words i (PoolWord w) → Does (Store w x) x
  store_moves w x A = turns_to sh words i (PoolWord w) A x

  pub or_moves : (w bits : ℕ) → At sh words i (PoolWord w) → Does (Or w bits (slice_index words i)) (bit_or (slice_index words i) bits)
  or_moves w bits A = (turns_to sh words i (PoolWord w) A (bit_or (slice_index words i) bits), sym (found_at sh words i (PoolWord w) A))

  pub and_moves : (w bits : ℕ) → At sh words i (PoolWord w) → Does (And w bits (slice_index words i)) (bit_and (slice_index words i) bits)
  and_moves w bits A = (turns_to sh words i (PoolWord w) A (bit_and (slice_index words i) bits), sym (found_at sh words i (PoolWord w) A))

  -- ---- locks
  pub write_moves : (line w : ℕ) → w ≡ writer_bit k → At sh words i (LockWord line) → Does (TakeWrite line (eqb (slice_index words i) 0)) (either (eqb (slice_index words i) 0) w (slice_index words i))
  write_moves line w e A = let x : ℕ = slice_index words i in let f = found_at sh words i (LockWord line) A in ⊎_elim
      (λ (hit : x ≡ 0). let t = turns_to sh words i (LockWord line) A w in subst (λ b. Does (TakeWrite line b) (either b w x)) (sym (eq-eqb x 0 hit))
      (t.0, ap (with_writer k) f ∙ (write_won k x hit ∙ ap Some (ap lock_said (sym e) ∙ sym t.1))))
      (λ (miss : x ≢ 0). subst (λ b. Does (TakeWrite line b) (either b w x)) (sym (ne_eqb x 0 miss))
      (stays_at sh words i (LockWord line) A x refl, ap (with_writer k) f ∙ write_lost k x miss)) (cases_eq x 0)

  pub read_moves : (line b : ℕ) → k < 32 → b ≡ reader_bit k → At sh words i (LockWord line) → Does (TakeRead line (eqb (slice_index words i / 2 ^ 32) 0)) (bit_or (slice_index words i) b)
  read_moves line b few e A = let x : ℕ = slice_index words i in let f = found_at sh words i (LockWord line) A in let new : ℕ = bit_or x b in ⊎_elim
      (λ (hit : x / 2 ^ 32 ≡ 0). let t = turns_to sh words i (LockWord line) A new in subst (λ y. Does (TakeRead line y) new) (sym (eq-eqb (x / 2 ^ 32) 0 hit))
      (t.0, ap (with_reader k) f ∙ (read_won k x few hit ∙ ap Some (ap (λ y. lock_said (bit_or x y)) (sym e) ∙ sym t.1))))
      (λ (miss : x / 2 ^ 32 ≢ 0). subst (λ y. Does (TakeRead line y) new) (sym (ne_eqb (x / 2 ^ 32) 0 miss))
      (stays_at sh words i (LockWord line) A new (ap (λ y. lock_said (bit_or x y)) e ∙ read_same k x few miss), ap (with_reader k) f ∙ read_lost k x miss)) (cases_eq (x / 2 ^ 32) 0)

  pub raise_moves : (line own w : ℕ) → k < 32 → own ≡ reader_bit k → w ≡ writer_bit k → At sh words i (LockWord line) → Does (Raise line (eqb (slice_index words i) (reader_bit k))) (either (eqb (slice_index words i) own) w (slice_index words i))
  raise_moves line own w few o e A = subst (λ z. Does (Raise line (eqb (slice_index words i) (reader_bit k))) (either (eqb (slice_index words i) z) w (slice_index words i))) (sym o) (
      let x : ℕ = slice_index words i in let f = found_at sh words i (LockWord line) A in ⊎_elim
      (λ (hit : x ≡ reader_bit k). let t = turns_to sh words i (LockWord line) A w in subst (λ b. Does (Raise line b) (either b w x)) (sym (eq-eqb x (reader_bit k) hit))
      (t.0, ap (with_raised k) f ∙ (raise_won k x few hit ∙ ap Some (ap lock_said (sym e) ∙ sym t.1))))
      (λ (miss : x ≢ reader_bit k). subst (λ b. Does (Raise line b) (either b w x)) (sym (ne_eqb x (reader_bit k) miss))
      (stays_at sh words i (LockWord line) A x refl, ap (with_raised k) f ∙ raise_lost k x few miss)) (cases_eq x (reader_bit k)))

  -- given back: by the bits that a writer, or a reader, keeps
  pub write_gives : (line bits : ℕ) → k < 32 → bits ≡ bit_not w64 (bit_or (2 ^ 32 - 1) (writer_bit k)) → slice_index words i / 2 ^ 32 ≢ 0 → At sh words i (LockWord line) → Does (Give line) (bit_and (slice_index words i) bits)
  write_gives line bits few e high A = let x : ℕ = slice_index words i in let t = turns_to sh words i (LockWord line) A (bit_and x bits) in
      (t.0, t.1 ∙ (ap (λ y. lock_said (bit_and x y)) e ∙ (writer_gave k x few high ∙ ap (without_lane k) (sym (found_at sh words i (LockWord line) A)))))

  pub read_gives : (line bits : ℕ) → bits ≡ bit_not w64 (bit_or (reader_bit k) (writer_bit k)) → slice_index words i / 2 ^ 32 ≡ 0 → At sh words i (LockWord line) → Does (Give line) (bit_and (slice_index words i) bits)
  read_gives line bits e low A = let x : ℕ = slice_index words i in let t = turns_to sh words i (LockWord line) A (bit_and x bits) in
      (t.0, t.1 ∙ (ap (λ y. lock_said (bit_and x y)) e ∙ (reader_gave k x low ∙ ap (without_lane k) (sym (found_at sh words i (LockWord line) A)))))

  pub try_moves : (zone : ℕ) → At sh words i (ZoneLock zone) → Does (ZoneTry zone (eqb (slice_index words i) 0)) (either (eqb (slice_index words i) 0) (k + 1) (slice_index words i))
  try_moves zone A = let x : ℕ = slice_index words i in let f = found_at sh words i (ZoneLock zone) A in ⊎_elim
      (λ (hit : x ≡ 0). subst (λ b. Does (ZoneTry zone b) (either b (k + 1) x)) (sym (eq-eqb x 0 hit)) (turns_to sh words i (ZoneLock zone) A (k + 1), f ∙ hit))
      (λ (miss : x ≢ 0). subst (λ b. Does (ZoneTry zone b) (either b (k + 1) x)) (sym (ne_eqb x 0 miss)) (stays_at sh words i (ZoneLock zone) A x refl, λ q. miss (sym f ∙ q))) (cases_eq x 0)

  pub zone_gives : (zone : ℕ) → At sh words i (ZoneLock zone) → Does (ZoneGive zone) 0
  zone_gives zone A = turns_to sh words i (ZoneLock zone) A 0

  -- ---- occupancy words
  said_occ : (at : Occ) (x : ℕ) → said (occ_at at) x ≡ x
  said_occ (Run place) x = refl
  said_occ (Zone zone) x = refl

  occ_found : (at : Occ) → At sh words i (occ_at at) → memory_of sh words (occ_at at) ≡ slice_index words i
  occ_found at A = found_at sh words i (occ_at at) A ∙ said_occ at (slice_index words i)

  occ_turns : (at : Occ) (x : ℕ) → At sh words i (occ_at at) → IsSameBut (occ_at at) (memory_of sh words) (memory_of sh (set words i x)) × (memory_of sh (set words i x) (occ_at at) ≡ x)
  occ_turns at x A = let t = turns_to sh words i (occ_at at) A x in (t.0, t.1 ∙ said_occ at x)

  pub see_moves : (at : Occ) → At sh words i (occ_at at) → Does (Occupied at (slice_index words i)) (slice_index words i)
  see_moves at A = (stays_at sh words i (occ_at at) A (slice_index words i) refl, sym (occ_found at A))

  pub occupy_won : (at : Occ) (bits : ℕ) → bit_and (slice_index words i) bits ≡ 0 → At sh words i (occ_at at) → Does (Occupy at bits true) (bit_or (slice_index words i) bits)
  occupy_won at bits free A = let f = occ_found at A in let t = occ_turns at (bit_or (slice_index words i) bits) A in ((t.0, t.1 ∙ ap (λ y. bit_or y bits) (sym f)), ap (λ y. bit_and y bits) f ∙ free)

  pub occupy_lost : (at : Occ) (bits x : ℕ) → x ≡ slice_index words i → bit_and (slice_index words i) bits ≢ 0 → At sh words i (occ_at at) → Does (Occupy at bits false) x
  occupy_lost at bits x same taken A = (stays_at sh words i (occ_at at) A x (ap (said (occ_at at)) same), λ q. taken (ap (λ y. bit_and y bits) (sym (occ_found at A)) ∙ q))

  -- one bit that is set already
  set_already : (x b : ℕ) → bit_and x (2 ^ b) ≢ 0 → bit_or x (2 ^ b) ≡ x
  set_already x b taken = let p = and_pow x b in let top = bit_at-lt x b in let one : bit_at x b ≡ 1 = ⊎_elim (λ (z : bit_at x b ≡ 0). let none : 0 * 2 ^ b ≡ 0 = omega arith in absurd (taken (p ∙ (ap (λ y. y * 2 ^ b) z ∙ none)))) (λ (n : bit_at x b ≢ 0). omega (arith, top)) (cases_eq (bit_at x b) 0) in
      same_from_bits (bit_or x (2 ^ b)) x (λ j. let o = bit_at_or x (2 ^ b) j in ⊎_elim
      (λ (e : j ≡ b). let s = bit_at-pow_same b in let u : bit_at x j ≡ 1 = ap (bit_at x) e ∙ one in let v : bit_at (2 ^ b) j ≡ 1 = ap (bit_at (2 ^ b)) e ∙ s in omega (arith, o, u, v))
      (λ (ne : j ≢ b). let z = bit_at-pow_other b j ne in omega (arith, o, z)) (cases_eq j b))

  pub occupy_run : (at b bits : ℕ) → bits ≡ 2 ^ b → At sh words i (occ_at (Run at)) → Does (Occupy (Run at) bits (eqb (bit_and (slice_index words i) bits) 0)) (bit_or (slice_index words i) bits)
  occupy_run at b bits e A = let x : ℕ = slice_index words i in ⊎_elim
      (λ (free : bit_and x bits ≡ 0). subst (λ t. Does (Occupy (Run at) bits t) (bit_or x bits)) (sym (eq-eqb (bit_and x bits) 0 free)) (occupy_won (Run at) bits free A))
      (λ (taken : bit_and x bits ≢ 0). subst (λ t. Does (Occupy (Run at) bits t) (bit_or x bits)) (sym (ne_eqb (bit_and x bits) 0 taken))
      (occupy_lost (Run at) bits (bit_or x bits) (ap (bit_or x) e ∙ set_already x b (λ q. taken (ap (bit_and x) e ∙ q))) taken A)) (cases_eq (bit_and x bits) 0)

  pub vacate_moves : (at : Occ) (bits kept : ℕ) → kept ≡ bit_not w64 bits → At sh words i (occ_at at) → Does (Vacate at bits) (bit_and (slice_index words i) kept)
  vacate_moves at bits kept e A = let t = occ_turns at (bit_and (slice_index words i) kept) A in (t.0, t.1 ∙ (ap (bit_and (slice_index words i)) e ∙ ap (λ y. bit_and y (bit_not w64 bits)) (sym (occ_found at A))))

  -- ---- the counter and the stop word
  pub draw_moves : slice_index words i + 1 < 2 ^ 64 → At sh words i CommitCounter → Does (Draw (slice_index words i)) ((slice_index words i + 1) % 2 ^ 64)
  draw_moves room A = let x : ℕ = slice_index words i in let e : (x + 1) % 2 ^ 64 ≡ x + 1 = omega arith in let t = turns_to sh words i CommitCounter A ((x + 1) % 2 ^ 64) in ((t.0, t.1 ∙ e), sym (found_at sh words i CommitCounter A))

  pub number_moves : At sh words i CommitCounter → Does (NumberSeen (slice_index words i)) (slice_index words i)
  number_moves A = (stays_at sh words i CommitCounter A (slice_index words i) refl, sym (found_at sh words i CommitCounter A))

  pub stop_moves : At sh words i StopWord → Does (StopSeen (not (eqb (slice_index words i) 0))) (slice_index words i)
  stop_moves A = (stays_at sh words i StopWord A (slice_index words i) refl, ap (λ y. not (eqb y 0)) (sym (found_at sh words i StopWord A)))

  pub set_moves : At sh words i StopWord → Does SetStop 1
  set_moves A = turns_to sh words i StopWord A 1

  -- ---- what changes no word
  pub pulse_moves : (lane x : ℕ) → i ≡ pulse_place sh lane → lane < sh.lanes → IsSame (memory_of sh words) (memory_of sh (set words i x))
  pulse_moves lane x is few = subst (λ j. IsSame (memory_of sh words) (memory_of sh (set words j x))) (sym is) (pulses sh words x lane few)

-- bits that were clear in a word of which no bit is set beyond some others
pub clear_still : (x most bits : ℕ) → ((i : ℕ) → bit x i ≡ true → bit most i ≡ true) → bit_and most bits ≡ 0 → bit_and x bits ≡ 0
clear_still x most bits within free = same_from_bits (bit_and x bits) 0 (λ i. let a = bit_at_and x bits i in let b = bit_at_and most bits i in let z = bit_at-zero i in let none : bit_at (bit_and most bits) i ≡ 0 = ap (λ y. bit_at y i) free ∙ z in let top = bit_at-lt x i in ⊎_elim
    (λ (one : bit_at x i ≡ 1). let w : bit_at most i ≡ 1 = eqb-true (bit_at most i) 1 (within i (eq-eqb (bit_at x i) 1 one)) in omega (arith, a, b, z, none, w, one))
    (λ (ne : bit_at x i ≢ 1). let q : bit_at x i ≡ 0 = omega (arith, top) in omega (arith, a, z, q)) (cases_eq (bit_at x i) 1))

-- a bit from 32 on
high_bit : (x j : ℕ) → bit_at x (32 + j) ≡ bit_at (x / 2 ^ 32) j
high_bit x j = let h : ℕ = x / 2 ^ 32 in let l : ℕ = x % 2 ^ 32 in let low : l < 2 ^ 32 = omega arith in let parts : x ≡ h * 2 ^ 32 + l = omega arith in let c = bit_at_cat_high h 32 l (32 + j) low (omega arith) in let e : 32 + j - 32 ≡ j = omega arith in
    ap (λ n. bit_at n (32 + j)) parts ∙ (c ∙ ap (bit_at h) e)

-- HOW THE LANE HOLDS A LINE is what the lock word says: a writer's bit is set, or none is
pub mode_known : (o : Opening) (words : List ℕ) (v : View) (b : Option Bound) (i line : ℕ) → Before o words v b → v.fixed.lane < 32 → At o.shape words i (LockWord line) → holds v.claims line ≡ true
    → locked v.claims line ≡ not (eqb (slice_index words i / 2 ^ 32) 0)
mode_known o words v b i line B few A held = ⊎_elim wrote did (or_cases (locked v.claims line) (reads v.claims line) held)
  where
    k : ℕ
    k = v.fixed.lane

    x : ℕ
    x = slice_index words i

    word : ℕ
    word = memory_of o.shape words (LockWord line)

    f : word ≡ lock_said x
    f = found_at o.shape words i (LockWord line) A

    writes : bit word (32 + k) ≡ locked v.claims line
    writes = (B.world.bits.each_lane k).hold.locks line ∙ ap (λ (w : View). locked w.claims line) B.view

    reading : (nat_lt k 32 && bit word k) ≡ reads v.claims line
    reading = (B.world.bits.each_lane k).hold.reading line ∙ ap (λ (w : View). reads w.claims line) B.view

    high : x / 2 ^ 32 ≢ 0 → not (eqb (x / 2 ^ 32) 0) ≡ true
    high n = ap not (ne_eqb (x / 2 ^ 32) 0 n)

    wrote : locked v.claims line ≡ true → locked v.claims line ≡ not (eqb (x / 2 ^ 32) 0)
    wrote t = t ∙ sym (high (λ low. let s : word ≡ x = f ∙ said_low x low in let small : x < 2 ^ 32 = omega arith in let z = bit_at_above x 32 (32 + k) small (omega arith) in
        both_ways (bit word (32 + k)) (ap (λ y. bit y (32 + k)) s ∙ ap (λ y. y == 1) z) (writes ∙ t)))

    did : reads v.claims line ≡ true → locked v.claims line ≡ not (eqb (x / 2 ^ 32) 0)
    did t = ⊎_elim (λ (w : locked v.claims line ≡ true). wrote w) (λ (n : locked v.claims line ≡ false). n ∙ sym (ap not (eq-eqb (x / 2 ^ 32) 0 none))) (cases_Bool (locked v.claims line))
      where
        no_writer : (j : ℕ) → bit word (32 + j) ≡ false
        no_writer j = ⊎_elim (λ (w : bit word (32 + j) ≡ true). absurd (both_ways (nat_lt k 32 && bit word k) ((B.world.bits.alone line j w k).0) (reading ∙ t))) (λ (n : bit word (32 + j) ≡ false). n) (cases_Bool (bit word (32 + j)))

        clear : word / 2 ^ 32 ≡ 0
        clear = same_from_bits (word / 2 ^ 32) 0 (λ j. let h = high_bit word j in let z = bit_at-zero j in let top = bit_at-lt word (32 + j) in ⊎_elim
            (λ (one : bit_at word (32 + j) ≡ 1). absurd (both_ways (bit word (32 + j)) (no_writer j) (eq-eqb (bit_at word (32 + j)) 1 one)))
            (λ (ne : bit_at word (32 + j) ≢ 1). omega (arith, h, z, top)) (cases_eq (bit_at word (32 + j)) 1))

        none : x / 2 ^ 32 ≡ 0
        none = ⊎_elim (λ (e : x / 2 ^ 32 ≡ 0). e) (λ (ne : x / 2 ^ 32 ≢ 0). absurd (high_part x ne (ap (λ y. y / 2 ^ 32) (sym f) ∙ clear))) (cases_eq (x / 2 ^ 32) 0)

-- A LANE THAT WRITES holds the line alone: of the word nothing stays but what readers left
module _ (o : Opening) (words : List ℕ) (v : View) (b : Option Bound) (i line : ℕ) (B : Before o words v b) (few : v.fixed.lane < 32) (A : At o.shape words i (LockWord line)) (held : locked v.claims line ≡ true)
    (fits : slice_index words i < 18446744073709551616) where
  abbrev own : ℕ
  own = v.fixed.lane

  abbrev old : ℕ
  old = slice_index words i

  abbrev told : ℕ
  told = memory_of o.shape words (LockWord line)

  said_is : told ≡ lock_said old
  said_is = found_at o.shape words i (LockWord line) A

  writes : bit told (32 + own) ≡ true
  writes = (B.world.bits.each_lane own).hold.locks line ∙ (ap (λ (w : View). locked w.claims line) B.view ∙ held)

  half : old / 2 ^ 32 ≡ told / 2 ^ 32
  half = ⊎_elim (λ (low : old / 2 ^ 32 ≡ 0). ap (λ y. y / 2 ^ 32) (sym (said_is ∙ said_low old low)))
      (λ (high : old / 2 ^ 32 ≢ 0). let e : told ≡ old / 2 ^ 32 * 2 ^ 32 = said_is ∙ said_high old high in omega (arith, e)) (cases_eq (old / 2 ^ 32) 0)

  no_other : (n : ℕ) → n ≢ own → bit_at old (32 + n) ≡ 0
  no_other n ne = let a = high_bit old n in let c = high_bit told n in let h = ap (λ y. bit_at y n) half in let top = bit_at-lt told (32 + n) in ⊎_elim
      (λ (one : bit_at told (32 + n) ≡ 1). absurd (both_ways (bit told (32 + n)) ((B.world.bits.alone line own writes n).1 ne) (eq-eqb (bit_at told (32 + n)) 1 one)))
      (λ (not_one : bit_at told (32 + n) ≢ 1). omega (arith, a, c, h, top, not_one)) (cases_eq (bit_at told (32 + n)) 1)

  pub write_frees : writer_left own old ≡ 0
  write_frees = same_from_bits (writer_left own old) 0 (λ j. let z = bit_at-zero j in let e = left_clear own old j few fits (λ n ne at. ap (bit_at old) at ∙ no_other n ne) in omega (arith, z, e))
