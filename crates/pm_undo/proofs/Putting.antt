-- Recorded words are put back, one after another.
use Rattle.std.proofs.Common.{◌≡◌, ◌≢◌, ℕ, zero, suc, ◌+◌, ◌*◌, ◌/◌, ◌%◌, ◌<◌, ◌≤◌, ◌⊎◌, inl, inr, ⊎_elim, true, false, ◌==◌, ◌&&◌, nat_lt, nat_le, List, [], ◌∷◌, length, take, get_or, refl, sym, ap, ◌∙◌, subst, arith, eq-eqb, Option, None, Some}
use Rattle.std.specs.Prelude.{slice_index}
use Rattle.std.proofs.lemmas.Bool.{and_from, both_ways, cases_eq, cond-true, le-leb, lt-ltb}
use Rattle.std.proofs.lemmas.List.{take_more}
use Rattle.std.proofs.Math.Nat.{eq-or-lt_of_le}
use Rattle.pm_layout.specs.declared.shape.Shape.{Shape}
use Rattle.pm_view.specs.Claims.{pictured}
use Rattle.pm_view.specs.Counts.{HasRoom}
use Rattle.pm_view.specs.Entries.{first_of_two}
use Rattle.pm_view.specs.Log.{Recorded, old_in, old_of}
use Rattle.pm_view.specs.Places.{Place, InRun, InHuge, Descr, RootWord, place_after, is_data, word_of, is_after, distance}
use Rattle.pm_view.specs.Steps.Step.{Store}
use Rattle.pm_view.specs.View.{View}
use Rattle.pm_view.specs.Views.{after}
use Rattle.pm_world.specs.States.{given}
use Rattle.pm_world.specs.Lawful.{MayStore, place_in}
use Rattle.pm_world.specs.Sights.{is_recorded}
use Rattle.pm_world.proofs.Recording.{old_in_at, place_is, recorded_cases}
use Rattle.pm_plan.specs.Plans.{IsPersisted}
use Rattle.pm_plan.specs.Notes.{Valued}
use Rattle.pm_undo.specs.Working.{AreOnce, IsStanding, IsWorking}
use Rattle.pm_undo.proofs.Apart.{no_recorded}
use Rattle.pm_undo.proofs.Logging.{AreBeyond, Logging, pictured_still, starts, still_logging}
use Rattle.pm_plan.proofs.Notes.{pictured_noted}
use Rattle.pm_undo.proofs.RecordedWords.{IsKnownPlace, may_write, other_word, write_beyond, write_is, write_more}
use Rattle.pm_undo.proofs.Snapshotted.{at_index}

-- a record has its words
pub old_at : (p : Place) (old : List ℕ) (i : ℕ) → is_data (place_after p i) ≡ true → i < length old
    → old_in (record { place = p; old = old }) (place_after p i) ≡ Some (slice_index old i)
old_at p old i plain low = go p plain where
  by : (p : Place) → is_after p (place_after p i) ≡ true → distance p (place_after p i) ≡ i
      → old_in (record { place = p; old = old }) (place_after p i) ≡ Some (slice_index old i)
  by p a d = cond-true (is_after p (place_after p i) && nat_lt (distance p (place_after p i))
      (length old)) (Some (slice_index old (distance p (place_after p i)))) None
      (and_from (is_after p (place_after p i)) (nat_lt (distance p (place_after p i)) (length old))
      a (lt-ltb (distance p (place_after p i)) (length old) (omega (arith, d, low))))
      ∙ ap (λ n. Some (slice_index old n)) d

  go : (p : Place) → is_data (place_after p i) ≡ true → old_in (record { place = p; old = old })
      (place_after p i) ≡ Some (slice_index old i)
  go (InRun c u) e = by (InRun c u) (and_from (c == c) (nat_le u (u + i)) (eq-eqb c c refl)
      (le-leb u (u + i) (omega arith))) (omega arith)
  go (InHuge c u) e = by (InHuge c u)
      (and_from (nat_lt ((u + i) % 512) 512)
      (nat_le (512 * c + u) (512 * (c + (u + i) / 512) + (u + i) % 512))
      (lt-ltb ((u + i) % 512) 512 (omega arith))
      (le-leb (512 * c + u) (512 * (c + (u + i) / 512) + (u + i) % 512) (omega arith)))
      (omega arith)
  go (Descr c) e = absurd (both_ways false refl e)
  go RootWord e = absurd (both_ways false refl e)

-- what one of some records has, they have, where no word has two
old_is : (rs : List Recorded) (k : ℕ) (p : Place) (x : ℕ) → AreOnce rs → k < length rs
    → old_in (get_or rs k no_recorded) p ≡ Some x → old_of rs p ≡ Some x
old_is [] k p x once low e = absurd (omega (arith, low))
old_is (r ∷ rs) zero p x once low e = ap (λ o. first_of_two o (old_of rs p)) e
old_is (r ∷ rs) (suc k) p x once low e = go (old_in r p) refl
    (old_is rs k p x once.1 (omega (arith, low)) e) where
      go : (o : Option ℕ) → old_in r p ≡ o → old_of rs p ≡ Some x
          → first_of_two o (old_of rs p) ≡ Some x
      go None q later = later
      go (Some y) q later = absurd (both_ways (is_recorded rs p) (once.0 p (ap given q))
          (ap given later))

module _ (v : View) (working : IsWorking v) where
  abbrev sh : Shape
  sh = v.fixed.shape

  abbrev records : List Recorded
  records = v.log.records

  abbrev nth : ℕ → Recorded
  nth k = get_or records k no_recorded

  -- no record is of the word
  abbrev pub IsUnrecorded : ℕ → Type 0
  IsUnrecorded w = (p : Place) → is_recorded records p ≡ true → w ≢ word_of sh p

  -- the place is of the first k records, or of the first j words of the next
  abbrev IsDone : ℕ → ℕ → Place → Type 0
  IsDone k j q = (is_recorded (take k records) q ≡ true) ⊎ ((i : ℕ) × (i < j)
      × (place_after (nth k).place i ≡ q))

  -- THESE ARE PUT BACK: of each the lane knows the word recorded
  pub record Putting (k j : ℕ) (u : View) : Type 0 where
    pub at : Logging v IsUnrecorded records [] u
    pub far : AreBeyond sh u.changes
    pub done : (q : Place) (x : ℕ) → IsDone k j q → place_in v (word_of sh q) ≡ Some q
        → old_of records q ≡ Some x → pictured sh u.claims (word_of sh q) ≡ Some x

  pub putting_starts : Putting 0 0 v
  putting_starts = record {
    at = starts v working IsUnrecorded;
    far = working.clean;
    done = λ q x d at is. absurd
        (⊎_elim (λ (none : is_recorded [] q ≡ true). both_ways false refl none)
        (λ (few : (i : ℕ) × (i < 0) × (place_after (nth 0).place i ≡ q)). let l = few.1 in
        omega (arith, l)) d);
  }

  -- all is made persistent
  pub still_putting : (k j : ℕ) (u w : View) → Putting k j u → IsPersisted u w → Putting k j w
      × (w.changes ≡ [])
  still_putting k j u w p is = let t = still_logging p.at working w is in (
    record {
      at = t.0;
      far = subst (AreBeyond sh) (sym t.1) tt;
      done = λ q x d at is_. pictured_still p.at working w is (word_of sh q)
          ∙ p.done q x d at is_;
    },
    t.1,
  )

  -- the next record begins
  pub next_record : (k : ℕ) (u : View) → k < length records → Putting k (length (nth k).old) u
      → Putting (k + 1) 0 u
  next_record k u low p = record {
    at = p.at;
    far = p.far;
    done = λ q x d at is. p.done q x
        (⊎_elim (λ (some : is_recorded (take (k + 1) records) q ≡ true). split q
        (recorded_cases (take k records) (nth k) q
        (ap (λ rs. is_recorded rs q) (sym (take_more records k no_recorded low)) ∙ some)))
        (λ (few : (i : ℕ) × (i < 0) × (place_after (nth (k + 1)).place i ≡ q)). absurd
        (let l = few.1 in omega (arith, l))) d) at is;
  }
    where
      split : (q : Place)
          → (is_recorded (take k records) q ≡ true) ⊎ (given (old_in (nth k) q) ≡ true)
          → IsDone k (length (nth k).old) q
      split q (inl before) = inl before
      split q (inr here) = let t = old_in_at (nth k) q here in
          inr (distance (nth k).place q, t.1, place_is (nth k).place q t.0)

  -- ---- the next word is stored
  module _ (k j : ℕ) (u : View) (p : Putting k j u) (low : k < length records)
      (small : j < length (get_or records k no_recorded).old) where
    abbrev q : Place
    q = place_after (nth k).place j

    abbrev x : ℕ
    x = slice_index (nth k).old j

    stands : IsStanding v (nth k)
    stands = at_index (IsStanding v) records no_recorded k working.standing low

    old : old_of records (place_after (nth k).place j) ≡ Some x
    old = old_is records k q x working.once low
        (old_at (nth k).place (nth k).old j (stands.data_ j small) small)

    is_known : IsKnownPlace v (place_after (nth k).place j)
    is_known = record {
      plain = stands.data_ j small;
      there = (stands.row j small).0;
      use_ = stands.use_ j small;
    }

    pub may_put : HasRoom u.changes → MayStore u (word_of sh q) x
    may_put room = may_write working p.at p.far q is_known (ap given old) x (stands.small j small)
        room

    pub put_on : Putting k (j + 1) (after u (Store (word_of sh q) x))
    put_on = subst (Putting k (j + 1))
        (sym (write_is working p.at p.far q is_known (ap given old) x)) (record {
          at = write_more working p.at p.far q is_known (ap given old) x
              (λ y out e. out q (ap given old) (sym e));
          far = (write_beyond working p.at p.far q is_known (ap given old) x, p.far);
          done = λ q' y d at is. ⊎_elim
              (λ (here : word_of sh q ≡ word_of sh q'). cond-true (word_of sh q == word_of sh q')
              (Some x) (pictured sh u.claims (word_of sh q'))
              (eq-eqb (word_of sh q) (word_of sh q') here)
              ∙ (sym old
              ∙ (ap (old_of records)
              (sym (other_word working p.at p.far q is_known (ap given old) x q' at here)) ∙ is)))
              (λ (else_ : word_of sh q ≢ word_of sh q'). pictured_noted sh u.claims
              (Valued (word_of sh q) x) tt (word_of sh q') else_ ∙ p.done q' y (before q' else_ d)
              at is) (cases_eq (word_of sh q) (word_of sh q'));
        })
      where
        before : (q' : Place) → word_of sh q ≢ word_of sh q' → IsDone k (j + 1) q' → IsDone k j q'
        before q' else_ (inl some) = inl some
        before q' else_ (inr few) =
            ⊎_elim (λ (last : few.0 ≡ j). absurd
            (else_ (ap (word_of sh) (ap (place_after (nth k).place) (sym last) ∙ few.2))))
            (λ (less : few.0 < j). inr (few.0, less, few.2))
            (eq-or-lt_of_le (let b = few.1 in let e : few.0 ≤ j = omega (arith, b) in e))
