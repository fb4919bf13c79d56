-- What a lane may record it may record as well once it noted something, and has other changes and another log.
use Rattle.std.proofs.Common.{◌≡◌, ℕ, ◌+◌, ◌-◌, ◌*◌, ◌/◌, ◌<◌, ◌≤◌, false, List, length, refl, sym, ap, ◌∙◌, subst, arith, Some, IsTrue}
use Rattle.std.proofs.lemmas.Bool.{both_ways}
use Rattle.pm_layout.specs.declared.shape.Shape.{Shape}
use Rattle.pm_layout.specs.Chunks.{word_of_chunk}
use Rattle.pm_view.specs.Changes.{Undrained}
use Rattle.pm_view.specs.Claims.{Claim, class, first, here, known}
use Rattle.pm_view.specs.Log.{Log, Recorded, place_at}
use Rattle.pm_view.specs.Places.{Place, InRun, InHuge, Descr, RootWord, Block, Small, Big, part, place_after, word_of}
use Rattle.pm_view.specs.View.{View, runs_one}
use Rattle.pm_view.specs.Steps.{Step}
use Rattle.pm_world.specs.Lawful.{CanRecord, CanRecordAt, is_guarded}
use Rattle.pm_world.specs.Sights.{is_recorded}
use Rattle.pm_plan.specs.Notes.{IsBeyond}

module _ (u : View) (t : List Claim) (changes : List Undrained) (calls : List Step) (log : Log) (classes : class t ≡ class u.claims) (firsts : first u.fixed.shape t ≡ first u.fixed.shape u.claims)
    (heres : (B : Block) → here u.fixed.shape t B ≡ here u.fixed.shape u.claims B) (knowns : (w : ℕ) → IsBeyond u.fixed.shape w → known u.fixed.shape (runs_one u) t w ≡ known u.fixed.shape (runs_one u) u.claims w) where
  abbrev sh : Shape
  sh = u.fixed.shape

  abbrev pub moved_to : View
  moved_to = record u { claims = t; changes = changes; calls = calls; log = log }

  -- what is said of a run's word by the class of the run, and of a huge block's by its first chunk
  record InRunBy (c w size : ℕ) (cl : ℕ → ℕ) : Type 0 where
    here_ : IsTrue (here sh t (Small c (part (cl c) w 64)))
    guarded : IsTrue (is_guarded (w - 8 * (1 + cl c * ((w / 8 - 1) / cl c))))
    sized : known sh (runs_one u) t (word_of_chunk sh c + (8 * (1 + cl c * ((w / 8 - 1) / cl c)) + 1)) ≡ Some size
    within : (w - 8 * (1 + cl c * ((w / 8 - 1) / cl c))) / 8 ≤ (size + 63) / 64

  record InHugeBy (c w size : ℕ) (fi : ℕ → ℕ) : Type 0 where
    here_ : IsTrue (here sh t (Big (fi c)))
    guarded : IsTrue (is_guarded (512 * (c - fi c) + w))
    sized : known sh (runs_one u) t (word_of_chunk sh (fi c) + 1) ≡ Some size
    within : (512 * (c - fi c) + w) / 8 ≤ (size + 63) / 64

  pub moved_at : (p : Place) (x : ℕ) → is_recorded log.records p ≡ false → CanRecordAt u p x → CanRecordAt moved_to p x
  moved_at (InRun c w) x new can =
      let before : InRunBy c w can.size (class u.claims) = record {
        here_ = subst IsTrue (sym (heres (Small c (part (class u.claims c) w 64)))) can.word.own.0;
        guarded = can.word.own.2;
        sized = knowns (word_of_chunk sh c + (8 * (1 + class u.claims c * ((w / 8 - 1) / class u.claims c)) + 1)) (omega arith) ∙ can.sized;
        within = can.within;
      } in
      let now : InRunBy c w can.size (class t) = subst (InRunBy c w can.size) (sym classes) before in
      record {
        word = record { own = (now.here_, can.word.own.1, now.guarded); plain = can.word.plain; place = can.word.place; use_ = ap (λ cl. place_at sh cl (word_of sh (InRun c w))) classes ∙ can.word.use_; present = knowns (word_of_chunk sh c + w) (omega arith) ∙ can.word.present; new = new };
        small = can.small;
        size = can.size;
        sized = now.sized;
        within = now.within;
      }
  moved_at (InHuge c w) x new can =
      let before : InHugeBy c w can.size (first sh u.claims) = record {
        here_ = subst IsTrue (sym (heres (Big (first sh u.claims c)))) can.word.own.0;
        guarded = can.word.own.1;
        sized = knowns (word_of_chunk sh (first sh u.claims c) + 1) (omega arith) ∙ can.sized;
        within = can.within;
      } in
      let now : InHugeBy c w can.size (first sh t) = subst (InHugeBy c w can.size) (sym firsts) before in
      record {
        word = record { own = (now.here_, now.guarded); plain = can.word.plain; place = can.word.place; use_ = ap (λ cl. place_at sh cl (word_of sh (InHuge c w))) classes ∙ can.word.use_; present = knowns (word_of_chunk sh c + w) (omega arith) ∙ can.word.present; new = new };
        small = can.small;
        size = can.size;
        sized = now.sized;
        within = now.within;
      }
  moved_at (Descr c) x new can = absurd (both_ways false refl can.word.plain)
  moved_at RootWord x new can = absurd (both_ways false refl can.word.plain)

  pub moved_record : (r : Recorded) → ((i : ℕ) → i < length r.old → is_recorded log.records (place_after r.place i) ≡ false) → CanRecord u r → CanRecord moved_to r
  moved_record r new can = record {
    some = can.some;
    most = can.most;
    each = λ i low. moved_at (place_after r.place i) (Rattle.std.specs.Prelude.slice_index r.old i) (new i low) (can.each i low);
    use_ = ap (λ cl. place_at sh cl (word_of sh r.place)) classes ∙ can.use_;
    row = can.row;
  }
