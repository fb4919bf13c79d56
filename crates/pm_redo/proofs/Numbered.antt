-- A log that was written may be sealed once its call has its number.
use Rattle.std.proofs.Common.{◌≡◌, ℕ, ◌<◌, nat_le, nat_lt, false, List, [], ◌∷◌, ◌++◌, map, refl, sym, ap, ◌∙◌, arith, Some}
use Rattle.std.specs.List.{AllByRecursion}
use Rattle.std.proofs.lemmas.Bool.{and_left}
use Rattle.pm_layout.specs.declared.shape.Shape.{Shape}
use Rattle.pm_layout.specs.Areas.{redo_entries, word_of_entry, word_of_generation, word_of_seal}
use Rattle.pm_record.specs.declared.redo.Redo.{Redo}
use Rattle.pm_view.specs.Entries.{Entry}
use Rattle.pm_view.specs.Log.{Drawn, Log, Recorded, phase_drawn}
use Rattle.pm_view.specs.Parts.{is_entry_word}
use Rattle.pm_view.specs.Steps.Step.{Draw}
use Rattle.pm_view.specs.View.{View, Constants}
use Rattle.pm_view.specs.Views.{after, value_in}
use Rattle.pm_world.specs.Logs.{ends_with}
use Rattle.pm_redo.specs.Entries.{logged_entry}
use Rattle.pm_redo.specs.Stages.{CanLog, CanSeal, IsLogged, IsOfPlace, generation_word, seal_word}
use Rattle.pm_plan.proofs.AreaParts.{not_le}

-- a call with entries has yet to be decided
drawn_so : (n : ℕ) (records : List Recorded) (front : List Entry) (e : Entry)
    → phase_drawn n records (front ++ e ∷ []) ≡ Drawn n
drawn_so n [] [] e = refl
drawn_so n [] (f ∷ front) e = refl
drawn_so n (r ∷ records) [] e = refl
drawn_so n (r ∷ records) (f ∷ front) e = refl

-- the generation and the seal are before the entries
not_entry : (sh : Shape) (lane w : ℕ) → w < word_of_entry sh lane 0
    → is_entry_word sh lane w ≡ false
not_entry sh lane w low = and_left (nat_le (word_of_entry sh lane 0) w)
    (nat_lt w (word_of_entry sh lane (redo_entries sh))) (not_le (word_of_entry sh lane 0) w low)

module _ (v w : View) (entries : List Redo) (n : ℕ) (can : CanLog v entries)
    (is : IsLogged v entries w) where
  still : (es : List Entry) → AllByRecursion (IsOfPlace w) es
      → AllByRecursion (IsOfPlace (after w (Draw n))) es
  still [] all = tt
  still (e ∷ es) all = (
    record {
      place = all.0.place;
      is = all.0.is;
      at = all.0.at;
      root = all.0.root;
      small = all.0.small;
    },
    still es all.1,
  )

  fixed_so : w.fixed ≡ v.fixed
  fixed_so = ap (λ (y : View). y.fixed) is.same

  log_so : w.log ≡ record v.log {
    entries = map (logged_entry v) entries ++ ends_with v.fixed.shape
        v.fixed.lane v.log.generation ∷ [];
  }
  log_so = ap (λ (y : View). y.log) is.same

  pub numbered_lawful : value_in v (seal_word v) ≡ Some 0
      → value_in v (generation_word v) ≡ Some v.log.generation → CanSeal (after w (Draw n))
  numbered_lawful seal generation = record {
    number = n;
    drawn = ap (phase_drawn n w.log.records) is.whole.are ∙ drawn_so n w.log.records
        is.whole.front (ends_with w.fixed.shape w.fixed.lane w.log.generation);
    log_ = record {
      front = is.log_.front;
      are = is.log_.are;
      each = still is.log_.front is.log_.each;
      few = is.log_.few;
      below = is.log_.below;
      lane = is.log_.lane;
    };
    drained = ap (λ (y : View). y.changes) is.same;
    seal = ap (λ (f : Constants). value_in w (word_of_seal f.shape f.lane)) fixed_so
        ∙ ((is.known (seal_word v) (not_entry v.fixed.shape v.fixed.lane (seal_word v)
        (omega arith))).1
        ∙ seal);
    generation = ap (λ (f : Constants). value_in w (word_of_generation f.shape f.lane)) fixed_so
        ∙ ((is.known (generation_word v) (not_entry v.fixed.shape v.fixed.lane (generation_word v)
        (omega arith))).1
        ∙ (generation ∙ ap (λ (l : Log). Some l.generation) (sym log_so)));
  }
