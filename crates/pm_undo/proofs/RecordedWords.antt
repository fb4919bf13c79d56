-- A store of a word that has a record.
use Rattle.std.proofs.Common.{◌≡◌, ◌≢◌, ℕ, suc, ◌+◌, ◌/◌, ◌^◌, ◌<◌, ◌≤◌, inl, ⊎_elim, true, false, not, ◌==◌, ◌&&◌, List, [], ◌∷◌, length, refl, sym, ap, ◌∙◌, subst, arith, ne_eqb, Some}
use Rattle.std.specs.Prelude.{bit_and}
use Rattle.std.specs.List.{AllByRecursion, list_any}
use Rattle.std.specs.Option.{option_map}
use Rattle.std.proofs.lemmas.Bool.{and_from, both_ways, or_left, or_right, or_from}
use Rattle.std.proofs.lemmas.Option.{same_Some}
use Rattle.pm_layout.specs.declared.shape.Shape.{Shape}
use Rattle.pm_layout.specs.Areas.{line_of_slot}
use Rattle.pm_view.specs.Bits.{all_bits}
use Rattle.pm_view.specs.Changes.{Undrained, is_in_line}
use Rattle.pm_view.specs.Claims.{Knows, class, pictured}
use Rattle.pm_view.specs.Counts.{HasRoom}
use Rattle.pm_view.specs.Log.{Open, Recorded, log_stored, old_in, old_of, place_at}
use Rattle.pm_view.specs.Places.{Place, is_data, is_place, word_of, distance}
use Rattle.pm_view.specs.Steps.Step.{Store}
use Rattle.pm_view.specs.View.{View}
use Rattle.pm_view.specs.Views.{after, changed_from, marked_by, was_of}
use Rattle.pm_world.specs.States.{given}
use Rattle.pm_world.specs.Lawful.{MayStore, StoreFits, place_in}
use Rattle.pm_world.specs.Sights.{is_logged_from, is_recorded, is_slot_drained}
use Rattle.pm_world.proofs.Basics.{given_cases}
use Rattle.pm_world.proofs.Recording.{old_in_at, place_is}
use Rattle.pm_plan.specs.Notes.{IsBeyond, Valued}
use Rattle.pm_undo.specs.Working.{IsStanding, IsWorking}
use Rattle.pm_plan.proofs.AreaParts.{OfChunk, data_beyond, data_part, in_pool}
use Rattle.pm_undo.proofs.Logging.{AreBeyond, Logging, class_so, log_with, noted_others, view_with}

-- no change is of a slot's line, so each recorded word may be written
not_in_slots : (sh : Shape) (lane j : ℕ) (changes : List Undrained) → lane < sh.lanes → j < 64
    → AreBeyond sh changes → list_any (is_in_line (line_of_slot sh lane j)) changes ≡ false
not_in_slots sh lane j [] low few all = refl
not_in_slots sh lane j (c ∷ changes) low few all = let far = all.0 in
    or_from (c.word / 8 == line_of_slot sh lane j) (list_any (is_in_line (line_of_slot sh lane j))
    changes) (ne_eqb (c.word / 8) (line_of_slot sh lane j) (λ e. omega (arith, e, far, low, few)))
    (not_in_slots sh lane j changes low few all.1)

pub logged_so : (sh : Shape) (lane j : ℕ) (changes : List Undrained) (rs : List Recorded) (p : Place)
    → lane < sh.lanes → j + length rs ≤ 64 → AreBeyond sh changes → is_recorded rs p ≡ true
    → is_logged_from sh lane changes j rs p ≡ true
logged_so sh lane j changes [] p low few all e = absurd (both_ways false refl e)
logged_so sh lane j changes (r ∷ rs) p low few all e = ⊎_elim
    (λ (here : given (old_in r p) ≡ true). or_left (given (old_in r p) && is_slot_drained sh lane
    changes j) (is_logged_from sh lane changes (suc j) rs p)
    (and_from (given (old_in r p)) (is_slot_drained sh lane changes j) here
    (ap not (not_in_slots sh lane j changes low (omega (arith, few)) all))))
    (λ (later : is_recorded rs p ≡ true). or_right (given (old_in r p) && is_slot_drained sh lane
    changes j) (is_logged_from sh lane changes (suc j) rs p)
    (logged_so sh lane (suc j) changes rs p low (omega (arith, few)) all later))
    (given_cases (old_in r p) (old_of rs p) e)

-- a place that is recorded is data of the pool, of the use that the lane knows
pub record IsKnownPlace (v : View) (q : Place) : Type 0 where
  pub plain : is_data q ≡ true
  pub there : is_place v.fixed.shape q ≡ true
  pub use_ : place_in v (word_of v.fixed.shape q) ≡ Some q

pub known_place : (v : View) (rs : List Recorded) (q : Place) → AllByRecursion (IsStanding v) rs
    → is_recorded rs q ≡ true → IsKnownPlace v q
known_place v [] q all e = absurd (both_ways true (sym e) refl)
known_place v (r ∷ rs) q all e = ⊎_elim
    (λ (here : given (old_in r q) ≡ true). let t = old_in_at r q here in let s = all.0 in let i =
    distance r.place q in
    subst (IsKnownPlace v) (place_is r.place q t.0)
    (record { plain = s.data_ i t.1; there = (s.row i t.1).0; use_ = s.use_ i t.1 }))
    (λ (later : is_recorded rs q ≡ true). known_place v rs q all.1 later)
    (given_cases (old_in r q) (old_of rs q) e)

-- the place of a word that has a record
module _ {v : View} {stay : ℕ → Type 0} {u : View} (working : IsWorking v)
    (at : Logging v stay v.log.records [] u) (far : AreBeyond v.fixed.shape u.changes) (q : Place)
    (is : IsKnownPlace v q) (has_ : is_recorded v.log.records q ≡ true) (x : ℕ) where
  abbrev sh : Shape
  sh = v.fixed.shape

  abbrev w : ℕ
  w = word_of sh q

  of_chunk : OfChunk sh (class v.claims) v.fixed.lane w q
  of_chunk = data_part sh (class v.claims) v.fixed.lane w q working.lane is.plain is.use_

  pub write_beyond : IsBeyond v.fixed.shape (word_of v.fixed.shape q)
  write_beyond = data_beyond sh q is.plain

  -- another place of the lane's has another word
  pub other_word : (q' : Place) → place_in v (word_of v.fixed.shape q') ≡ Some q'
      → word_of v.fixed.shape q ≡ word_of v.fixed.shape q' → q' ≡ q
  other_word q' at e = same_Some q' q (sym at ∙ (ap (place_in v) (sym e) ∙ is.use_))

  pub may_write : x < 2 ^ 64 → HasRoom u.changes → MayStore u (word_of v.fixed.shape q) x
  may_write small room = subst (λ (y : View). MayStore y w x) (sym at.same) (record {
    inside = in_pool sh q is.plain is.there;
    room = room;
    small = small;
    fits = subst (λ y. StoreFits (view_with v u.claims u.changes u.calls v.log.records []) w x
        Open y) (sym of_chunk.part) (inl (record {
          place = q;
          at = ap (λ cl. place_at sh cl w) (class_so at) ∙ is.use_;
          logged = logged_so sh v.fixed.lane 0 u.changes v.log.records q working.lane
              (let few = working.few in omega (arith, few)) far has_;
          unentered = refl;
        }));
  })

  abbrev pub write_change : Undrained
  write_change = record {
    word = w;
    mask = all_bits;
    old =
        option_map (λ old. bit_and old all_bits) (pictured sh u.claims w);
    flushed = false;
  }

  abbrev pub write_view : View
  write_view = view_with v (Knows w x ∷ u.claims) (write_change ∷ u.changes) (Store w x ∷ u.calls)
      v.log.records []

  pub write_is : after u (Store (word_of v.fixed.shape q) x) ≡ write_view
  write_is = ap (λ (y : View). after y (Store w x)) at.same
      ∙ ap (λ y. changed_from (Store w x) (view_with v u.claims u.changes u.calls v.log.records []) w all_bits
      (was_of Open y (pictured sh u.claims w)) x (marked_by Open y x u.claims)
      (log_stored sh (class u.claims) Open y x (log_with v v.log.records []))) of_chunk.part

  pub write_more : ((y : ℕ) → stay y → word_of v.fixed.shape q ≢ y) → Logging v stay v.log.records
      [] write_view
  write_more other = noted_others at (Valued w x) tt other
      (write_change ∷ u.changes) (Store w x ∷ u.calls) v.log.records []
