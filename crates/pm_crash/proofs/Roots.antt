-- THE ROOT WORD AND THE LOCKS OF OTHER LANES: where another lane owns the word, no kept bits name an
-- object of a line whose lock this lane holds, nor does the memory; and a load that finds the word tells
-- so of all kept bits.
use Rattle.std.proofs.Common.{◌≡◌, ◌≢◌, ◌⊎◌, inl, inr, ⊎_elim, ℕ, ◌<◌, ◌≤◌, ◌&&◌, ◌||◌, not, Bool, true, false, cond, ◌∷◌, Option, None, Some, refl, sym, ap, ◌∙◌, subst, arith}
use Rattle.std.specs.Prelude.{IfSome, IsSomeAnd}
use Rattle.std.proofs.lemmas.Bool.{and_parts, both_ways, cases_Bool, cases_lt, cond-true, false_from_ne_true, or_cases, or_left, or_right}
use Rattle.pm_view.specs.Claims.{holds, is_held, is_held_at, locked, pictured, class}
use Rattle.pm_view.specs.Entries.{Entry, latest, redos}
use Rattle.pm_view.specs.Founds.{knows}
use Rattle.pm_view.specs.Log.{Phase, Idle, Open, Drawn, Sealing, Applying, Clearing, Retiring, Voiding, place_at}
use Rattle.pm_view.specs.Places.{RootWord, Root}
use Rattle.pm_view.specs.View.{runs_one}
use Rattle.pm_view.specs.Views.{value_in}
use Rattle.pm_world.specs.States.{State, after_diff, diff, given, over, root_line, val}
use Rattle.pm_world.specs.Sights.{Sight, sight_of}
use Rattle.pm_world.specs.Lanes.{Flies, SightFits, all_held, in_flight, is_decided, left, owns, rights}
use Rattle.pm_world.specs.Memory.{Memory, PoolWord, bit, cells_of}
use Rattle.pm_world.specs.World.{Opening, Views, Past, World, ghost_of, settled_words}
use Rattle.pm_world.proofs.Finds.{some_lane}
use Rattle.pm_world.proofs.Frame.{lock_apart, owns_apart}
use Rattle.pm_world.proofs.Known.{known_so}
use Rattle.pm_crash.specs.Footprints.{KeepsDecided, kept_bits}
use Rattle.pm_crash.specs.Roots.{HoldsGuards, HoldsItsRoots, HoldsRoots, is_root_line, sets_root}
use Rattle.pm_crash.specs.Spelled.{number}
use Rattle.pm_crash.proofs.KeptBits as kept
use Rattle.pm_crash.proofs.RootClaims.{guard_locked, setting, unset}
use Rattle.pm_crash.proofs.Spelling.{number_is}

flies_kept : (keep : ℕ → Bool) (ph : Phase) → kept.is_flight_kept keep ph ≡ true → in_flight ph ≡ true
flies_kept keep Idle e = absurd (both_ways false refl e)
flies_kept keep Open e = absurd (both_ways false refl e)
flies_kept keep (Drawn n) e = refl
flies_kept keep (Sealing n) e = refl
flies_kept keep (Applying todo) e = absurd (both_ways false refl e)
flies_kept keep Clearing e = absurd (both_ways false refl e)
flies_kept keep (Retiring n) e = refl
flies_kept keep Voiding e = absurd (both_ways false refl e)

pub some_known : (z : Option ℕ) (P : ℕ → Type 0) → IsSomeAnd z P → (x : ℕ) × (z ≡ Some x) × P x
some_known None P e = absurd e
some_known (Some x) P e = (x, refl, e)

none_given : (d : Option Bool) → ((y : Bool) → d ≡ Some y → ⊥) → given d ≡ false
none_given None h = refl
none_given (Some y) h = absurd (h y refl)

module _ (o : Opening) (mem : Memory) (views : Views) (g : Past) (x : World o mem views g) where
  abbrev S : State
  S = settled_words o g

  abbrev sight : ℕ → Sight
  sight j = sight_of (views j)

  fit : (j : ℕ) → SightFits o.shape (cells_of o.shape mem) (settled_words o g) (Flies (ghost_of g) j) (ghost_of g) j (sight_of (views j))
  fit j = x.bits.each_lane j

  -- the root word is owned by its guards alone
  root_held : (j n : ℕ) → rights (sight j).hold Root (0 ∷ root_line n) ≡ true → all_held (locked (views j).claims) (0 ∷ root_line n) ≡ true
  root_held j n e = ⊎_elim
      (λ (m : ((sight j).hold.mine Root || false) ≡ true). absurd (⊎_elim
      (λ (q : (sight j).hold.mine Root ≡ true). both_ways true ((fit j).hold.mine Root q).2 refl)
      (λ (q : false ≡ true). both_ways false refl q) (or_cases ((sight j).hold.mine Root) false m)))
      (λ (a : all_held (locked (views j).claims) (0 ∷ root_line n) ≡ true). a)
      (or_cases ((sight j).hold.mine Root || false) (all_held (locked (views j).claims) (0 ∷ root_line n)) e)

  abbrev owned : ℕ → Bool
  owned j = owns g.geo (settled_words o g) (sight_of (views j)).hold RootWord 0

  owner_locks : (j : ℕ) → owned j ≡ true → locked (views j).claims 0 ≡ true
  owner_locks j e = (and_parts (locked (views j).claims 0) (all_held (locked (views j).claims) (root_line (val (S RootWord) 0 64)))
      (root_held j (val (S RootWord) 0 64) e)).0

  owner_runs : (j : ℕ) → owned j ≡ true → j < o.lanes
  owner_runs j e = ⊎_elim (λ (l : j < o.lanes). l)
      (λ (l : o.lanes ≤ j). absurd (both_ways (locked (views j).claims 0) ((x.bits.beyond j l Root).1 0) (owner_locks j e)))
      (cases_lt j o.lanes)

  -- a value whose guards another lane locked names no object of a line that this one holds
  unnamed : (j k : ℕ) → j ≢ k → (line : ℕ) → holds (views j).claims line ≡ true → (n : ℕ)
      → all_held (locked (views k).claims) (0 ∷ root_line n) ≡ true → is_root_line n line ≡ false
  unnamed j k ne line h n a = false_from_ne_true (is_root_line n line) (λ t.
      both_ways (locked (views k).claims line)
      (lock_apart o.shape (cells_of o.shape mem) S (Flies (ghost_of g) j) (Flies (ghost_of g) k) (ghost_of g) x.bits.geo x.bits.alone
      j k (sight j) (sight k) (fit j) (fit k) ne line h)
      (guard_locked (locked (views k).claims) (root_line n) line (and_parts (locked (views k).claims 0) (all_held (locked (views k).claims) (root_line n)) a).1 t))

  -- WHERE ANOTHER LANE OWNS THE WORD, in no kept bits does it name an object of the line
  module _ (keep : ℕ → Bool) (d : KeepsDecided g keep) where
    abbrev K : State
    K = kept_bits o g keep g.length

    pub kept_apart : (j k : ℕ) → j ≢ k → (line : ℕ) → holds (views j).claims line ≡ true → owned k ≡ true
        → is_root_line (number (K RootWord)) line ≡ false
    kept_apart j k ne line h own = by (kept.is_flight_kept keep (views k).log.phase) refl
      where
        made : State
        made = after_diff (diff (sight k).call) S

        over_kept : (b : ℕ) → K RootWord b ≡ cond (kept.is_flight_kept keep (views k).log.phase) (over (diff (sight k).call RootWord b) (S RootWord b)) (S RootWord b)
        over_kept b = kept.kept_over o mem views g x keep d k RootWord b (λ i n.
            owns_apart o.shape (cells_of o.shape mem) S (Flies (ghost_of g) k) (Flies (ghost_of g) i) (ghost_of g) x.bits.geo x.bits.alone
            k i (sight k) (sight i) (fit k) (fit i) (λ e. n (sym e)) RootWord b own)

        by : (q : Bool) → kept.is_flight_kept keep (views k).log.phase ≡ q → is_root_line (number (K RootWord)) line ≡ false
        by false e = let same : K RootWord ≡ S RootWord = λ i b. (over_kept b ∙ ap (λ t. cond t (over (diff (sight k).call RootWord b) (S RootWord b)) (S RootWord b)) e) i in
            subst (λ w. is_root_line (number w) line ≡ false) (sym same)
            (unnamed j k ne line h (val (S RootWord) 0 64) (root_held k (val (S RootWord) 0 64) own))
        by true e = let same : K RootWord ≡ after_diff (diff (sight k).call) S RootWord = λ i b. (over_kept b ∙ ap (λ t. cond t (over (diff (sight k).call RootWord b) (S RootWord b)) (S RootWord b)) e) i in
            subst (λ w. is_root_line (number w) line ≡ false) (sym same)
            (unnamed j k ne line h (val (after_diff (diff (sight k).call) S RootWord) 0 64)
            (root_held k (val (after_diff (diff (sight k).call) S RootWord) 0 64) ((fit k).guarded (flies_kept keep (views k).log.phase e) 0 own)))

  -- A LOAD OF THE WORD, with the lock of a line held and line 0 not held for writing
  module _ (roots : (j : ℕ) → j < o.lanes → HoldsItsRoots (views j).fixed.shape (views j).claims (views j).log) (k line : ℕ) (held : holds (views k).claims line ≡ true)
      (free : not (locked (views k).claims 0) ≡ true) (keep : ℕ → Bool) (d : KeepsDecided g keep) where
    abbrev kept_number : ℕ
    kept_number = number (kept_bits o g keep g.length RootWord)

    abbrev there_now : ℕ
    there_now = mem (PoolWord 64)

    -- where another lane owns it, the memory's word is settled, or is the one that this lane knows
    other_word : (j : ℕ) → k ≢ j → owned j ≡ true → is_root_line there_now line ≡ false
    other_word j ne own = ⊎_elim
        (λ (t : sets_root (redos (views j).log.entries) ≡ true).
        let s = setting (λ (e : Entry). HoldsRoots (views j).fixed.shape (views j).claims e.value) (views j).log.entries (roots j (owner_runs j own)).entered t in
        let z = some_known (value_in (views j) 64) (HoldsGuards (views j).claims) s.1.1 in
        let right : (runs_one (views j) || is_held (views j).fixed.shape (views j).claims 64) ≡ true =
        or_right (runs_one (views j)) (is_held (views j).fixed.shape (views j).claims 64)
        (or_right (is_held_at (views j).fixed.shape (views j).claims (place_at (views j).fixed.shape (class (views j).claims) 64)) (holds (views j).claims 0)
        (or_left (locked (views j).claims 0) (Rattle.pm_view.specs.Claims.reads (views j).claims 0) (owner_locks j own))) in
        let know : knows (views j) 64 ≡ Some z.0 = cond-true (runs_one (views j) || is_held (views j).fixed.shape (views j).claims 64) (pictured (views j).fixed.shape (views j).claims 64) None right ∙ z.1 in
        let same : there_now ≡ z.0 = subst (λ q. IfSome q (λ y. mem (PoolWord 64) ≡ y)) know (known_so o mem views g x j (owner_runs j own) 64) in
        subst (λ n. is_root_line n line ≡ false) (sym same) (unnamed k j ne line held z.0 z.2))
        (λ (t : sets_root (redos (views j).log.entries) ≡ false).
        let so : (b : ℕ) → S RootWord b ≡ bit there_now b = λ b. sym (((fit j).bits RootWord b own).0 refl (unapplied j t b) (bare j b)) in
        subst (λ n. is_root_line n line ≡ false) (number_is (S RootWord) there_now (x.small 64) (λ b l. so b))
        (unnamed k j ne line held (val (S RootWord) 0 64) (root_held j (val (S RootWord) 0 64) own)))
        (cases_Bool (sets_root (redos (views j).log.entries)))
      where
        unapplied : (j : ℕ) → sets_root (redos (views j).log.entries) ≡ false → (b : ℕ) → given (left (views j).log.phase RootWord b) ≡ false
        unapplied j t b = none_given (left (views j).log.phase RootWord b) (λ y e.
            let s = (fit j).call.todo RootWord b y e in
            both_ways (given (latest (redos (views j).log.entries) RootWord b)) (ap given (unset (redos (views j).log.entries) t b)) (ap given s))

        bare : (j b : ℕ) → ((sight j).logged RootWord && not (is_decided (views j).log.phase)) ≡ false
        bare j b = false_from_ne_true ((sight j).logged RootWord && not (is_decided (views j).log.phase)) (λ t.
            let y = and_parts ((sight j).logged RootWord) (not (is_decided (views j).log.phase)) t in
            both_ways false refl ((fit j).stored RootWord b (undecided (is_decided (views j).log.phase) y.1) y.0))
          where
            undecided : (q : Bool) → not q ≡ true → q ≡ false
            undecided true e = sym e
            undecided false e = refl

    abbrev pub Tells : Type 0
    Tells = (kept_number ≡ there_now) ⊎ ((is_root_line there_now line ≡ false) × (is_root_line kept_number line ≡ false))

    pub tells : Tells
    tells = ⊎_elim
        (λ (y : (j : ℕ) × (owned j ≡ true)).
        let ne : k ≢ y.0 = λ e. both_ways (not (locked (views k).claims 0)) (ap not (owner_locks k (subst (λ i. owned i ≡ true) (sym e) y.1))) free in
        inr (other_word y.0 ne y.1, kept_apart keep d k y.0 ne line held y.1))
        (λ (n : (j : ℕ) → j < o.lanes → owned j ≡ false).
        let none : (j : ℕ) → owned j ≡ false = λ j. ⊎_elim (λ (l : j < o.lanes). n j l)
        (λ (l : o.lanes ≤ j). false_from_ne_true (owned j) (λ e. let r = owner_runs j e in absurd (omega arith))) (cases_lt j o.lanes) in
        inl (number_is (kept_bits o g keep g.length RootWord) there_now (x.small 64) (λ b l.
        kept.unowned_same o mem views g x keep d RootWord b none ∙ sym (x.bits.unowned RootWord b none refl))))
        (some_lane owned o.lanes)
