-- ANOTHER CHOICE OF SURVIVORS: each image that may survive tells which open calls it keeps, and the
-- entries with these fates are in order as before.
use Rattle.std.proofs.Common.{◌≡◌, ℕ, ◌<◌, Bool, true, false, All, Contains, List, [], ◌∷◌, length, map, get_or, Option, Some, None, refl, sym, ap, ◌∙◌, subst, arith}
use Rattle.std.specs.List.{AllZip, range_with_len}
use Rattle.std.proofs.lemmas.List.{get_or-map, length-map}
use Rattle.std.proofs.lemmas.List.Elements.{All-tail}
use Rattle.std.proofs.lemmas.List.FromFn.{get_or-map-range_with_len, length-map-range_with_len}
use Rattle.pm_calls.specs.declared.names.Names.{Names}
use Rattle.pm_crash.specs.Fates.{is_judged_kept}
use Rattle.pm_layout.specs.declared.shape.Shape.{Shape}
use Rattle.pm_model.specs.History.{is_answered}
use Rattle.pm_objects.specs.declared.history.Entry.{Entry}
use Rattle.pm_objects.specs.declared.history.Fate.{Fate}
use Rattle.pm_run.specs.Fates.{AreJudged}
use Rattle.pm_view.specs.declared.change.Change.{Change}
use Rattle.pm_exec.specs.Answers.{entry_of}
use Rattle.pm_exec.specs.Entries.{IsInRange}
use Rattle.pm_exec.specs.Reports.{AreInOrder, IsOfSomeWork, entries_of, open_fate}
use Rattle.pm_exec.specs.Runs.{IsButFate}
use Rattle.pm_exec.specs.declared.answer.Answer.{Answer}
use Rattle.pm_exec.specs.declared.work.LaneWork.{LaneWork}
use Rattle.pm_exec.proofs.Reported.{number_of}
use Rattle.pm_exec.proofs.Reports.{entries_with}
use Rattle.pm_exec.proofs.Rising.{Has, all_has, has_all, has_at, in_map, map_has, place_of}

-- ---- WHICH OPEN CALLS AN IMAGE KEEPS, a flag for each lane

abbrev pub judged_at : Shape → List ℕ → List (List Change) → List ℕ → ℕ → Bool
judged_at sh words undrained image k = is_judged_kept sh words (get_or undrained k []) image k

abbrev pub judged_flags : Shape → List ℕ → List (List Change) → List ℕ → List Bool
judged_flags sh words undrained image = map (judged_at sh words undrained image) (range_with_len 0 (length undrained))

pub are_judged : (sh : Shape) (words : List ℕ) (undrained : List (List Change)) (image : List ℕ) → AreJudged sh words undrained image (judged_flags sh words undrained image)
are_judged sh words undrained image = record {
  count = length-map-range_with_len (judged_at sh words undrained image) 0 (length undrained);
  each = λ k low. get_or-map-range_with_len (judged_at sh words undrained image) 0 (length undrained) k k false low (omega arith);
}

-- ---- AN ENTRY with the fate that flags give it

abbrev pub with_fate : Bool → Entry → Fate → Entry
with_fate true e f = e
with_fate false e f = record e { fate = f }

-- that of a call that was answered stays
abbrev pub refated : List Bool → Entry → Entry
refated flags e = with_fate (is_answered e.fate) e (open_fate (get_or flags e.call.lane true))

not_answered : (kept : Bool) → is_answered (open_fate kept) ≡ false
not_answered true = refl
not_answered false = refl

but_fate_by : (b : Bool) (e : Entry) (kept : Bool) → is_answered e.fate ≡ b → IsButFate e (with_fate b e (open_fate kept))
but_fate_by true e kept is = record { same = refl; answered = λ so. refl; unanswered = λ open_. open_ }
but_fate_by false e kept is = record { same = refl; answered = λ so. absurd (cc); unanswered = λ open_. not_answered kept }

but_fate : (flags : List Bool) (e : Entry) → IsButFate e (refated flags e)
but_fate flags e = but_fate_by (is_answered e.fate) e (get_or flags e.call.lane true) refl

pub but_fates : (flags : List Bool) (entries : List Entry) → AllZip IsButFate entries (map (refated flags) entries)
but_fates flags [] = tt
but_fates flags (e ∷ entries) = (but_fate flags e, but_fates flags entries)

same_number : (flags : List Bool) (e : Entry) → (refated flags e).number ≡ e.number
same_number flags e = let b = but_fate flags e in ap number_of b.same

-- ---- THE ENTRIES OF A WORK

-- the work is this lane's, and its answers are those of calls that were answered
pub record IsAnsweredWork {G : Type 0} (lane : ℕ) (work : LaneWork G) : Type 0 where
  pub number : work.number ≡ lane
  pub answered : All (λ (a : Answer). is_answered a.fate ≡ true) work.answers.items

open_refated : (flags : List Bool) (names : Names) (lane : ℕ) (kept : Bool) (a : Answer)
    → entry_of names lane a (open_fate (get_or flags lane true))
    ≡ refated flags (entry_of names lane a (open_fate kept))
open_refated flags names lane true a = refl
open_refated flags names lane false a = refl

lane_refated : (flags : List Bool) (names : Names) (lane : ℕ) (kept : Bool) (xs : List Answer)
    (u : Option Answer) → All (λ (a : Answer). is_answered a.fate ≡ true) xs
    → entries_with names lane (get_or flags lane true) xs u ≡ map (refated flags) (entries_with names lane kept xs u)
lane_refated flags names lane kept [] None answered = refl
lane_refated flags names lane kept [] (Some a) answered = ap (λ (e : Entry). e ∷ []) (open_refated flags names lane kept a)
lane_refated flags names lane kept (x ∷ xs) u answered =
    let e = entry_of names lane x x.fate in
    let b = but_fate flags e in
    let first : refated flags e ≡ e = b.answered (answered 0 x (omega arith)) in
    let rest = lane_refated flags names lane kept xs u (All-tail (λ (a : Answer). is_answered a.fate ≡ true) x xs answered) in
    ap (λ (f : Entry). f ∷ entries_with names lane (get_or flags lane true) xs u) (sym first)
    ∙ ap (λ (es : List Entry). refated flags e ∷ es) rest

work_refated : {G : Type 0} (flags : List Bool) (lane : ℕ) (kept : Bool) (work : LaneWork G) → IsAnsweredWork lane work
    → entries_of (get_or flags lane true) work ≡ map (refated flags) (entries_of kept work)
work_refated flags lane kept work done =
    ap (λ (n : ℕ). entries_of (get_or flags n true) work) (sym done.number)
    ∙ lane_refated flags work.names work.number kept work.answers.items work.unanswered done.answered

-- ---- THE ENTRIES OF ALL WORKS stay in order

module _ {G : Type 0} (works : List (LaneWork G)) (flags others : List Bool) (done : (k : ℕ) (w : LaneWork G) → k < length works → IsAnsweredWork k (get_or works k w)) where
  abbrev entries_at : List Bool → ℕ → LaneWork G → List Entry
  entries_at kept k w = entries_of (get_or kept k true) (get_or works k w)

  at_lane : (k : ℕ) (w : LaneWork G) → k < length works → entries_at others k w ≡ map (refated others) (entries_at flags k w)
  at_lane k w low = work_refated others k (get_or flags k true) (get_or works k w) (done k w low)

  of_work : (e : Entry) → IsOfSomeWork works flags e → IsOfSomeWork works others (refated others e)
  of_work e o = record {
    lane = o.lane;
    low = o.low;
    is = λ w.
        let c : Contains (entries_at flags o.lane w) e = o.is w in
        let there : Has (entries_at others o.lane w) (refated others e) =
        subst (λ (es : List Entry). Has es (refated others e)) (sym (at_lane o.lane w o.low))
        (map_has (refated others) (entries_at flags o.lane w) e (has_at (entries_at flags o.lane w) c.0 e e c.1 c.2)) in
        let p = place_of (entries_at others o.lane w) (refated others e) there in
        (p.at, p.low, p.is (refated others e));
  }

  pub still_in_order : (entries : List Entry) → AreInOrder works flags entries → AreInOrder works others (map (refated others) entries)
  still_in_order entries order =
      let long : length (map (refated others) entries) ≡ length entries = length-map entries (refated others) in
      record {
        each = λ i d low.
            let inside : i < length entries = omega (arith, long, low) in
            let e = get_or entries i d in
            let is : get_or (map (refated others) entries) i d ≡ refated others e = get_or-map (refated others) entries i d d inside in
            let o = order.each i d inside in
            (subst (λ (x : Entry). IsOfSomeWork works others x) (sym is) (of_work e o.0), ap number_of is ∙ same_number others e ∙ o.1);
        all = λ k w low. has_all (IsInRange (length (map (refated others) entries))) (entries_at others k w) (λ e there.
            let m = in_map (refated others) (entries_at flags k w) e (subst (λ (es : List Entry). Has es e) (at_lane k w low) there) in
            let range : IsInRange (length entries) m.of = all_has (IsInRange (length entries)) (entries_at flags k w) m.of (order.all k w low) m.there in
            let same : e.number ≡ m.of.number = ap number_of (sym m.is) ∙ same_number others m.of in
            let least = range.0 in
            let most = range.1 in
            (omega (arith, same, least), omega (arith, same, most, long)));
      }
