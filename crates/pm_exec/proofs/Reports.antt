-- WHAT LANES REPORT of their calls is what they told: each lane's entries show its calls, those that
-- are lost are those that the image loses, and they are the first of the lane's calls in the script.
use Rattle.std.proofs.Common.{◌≡◌, ◌≢◌, inl, inr, ℕ, suc, ◌<◌, not, Bool, true, false, All, List, [], ◌∷◌, ◌++◌, length, map, reverse, take, option_map, option_to_list, Option, Some, None, refl, sym, ap, ◌∙◌, subst, arith}
use Rattle.std.specs.List.{AllZip}
use Rattle.std.proofs.lemmas.List.{length-map, take-map}
use Rattle.pm_objects.specs.declared.calls.Call.{Call}
use Rattle.pm_objects.specs.declared.history.Entry.{Entry}
use Rattle.pm_objects.specs.declared.history.Fate.{Fate}
use Rattle.pm_objects.specs.declared.history.Fate.TheVariants as fate
use Rattle.pm_objects.specs.declared.refusal.Refusal.{Refusal}
use Rattle.pm_model.specs.History.{is_answered, is_lost}
use Rattle.pm_view.specs.View.{Numbered, View}
use Rattle.pm_world.specs.World.{Past, numbered_by}
use Rattle.pm_call.specs.Histories.{Ended, calls_ended, ended_of}
use Rattle.pm_crash.specs.Fates.{EndsOpen}
use Rattle.pm_script.specs.declared.script.ScriptLine.{ScriptLine}
use Rattle.pm_exec.specs.Answers.{IsAnswer, MayBeKeptOrLost, MayHaveFate, entry_of, lines_of, refused_as}
use Rattle.pm_calls.specs.Calls.{call_of}
use Rattle.pm_calls.specs.declared.names.Names.{Names}
use Rattle.pm_exec.specs.Reports.{open_fate}
use Rattle.pm_exec.specs.declared.answer.Answer.{Answer}
use Rattle.pm_exec.proofs.Reported.{LaneSays, Shows, number_of, shown_rise, told_by_lane}
use Rattle.pm_exec.proofs.Rising.{Has, all_has, has_all, in_either, in_map, rises_to}

-- ---- FATES

answered_not_lost : (f : Fate) → is_answered f ≡ true → is_lost f ≡ false
answered_not_lost fate.Kept is = cc
answered_not_lost fate.Lost is = cc
answered_not_lost f is = refl

open_lost : (b : Bool) → is_lost (open_fate b) ≡ not b
open_lost true = refl
open_lost false = refl

open_apart : (b : Bool) (r : Refusal) → refused_as (open_fate b) ≡ Some r → ⊥
open_apart true r same = cc
open_apart false r same = cc

open_may : (b : Bool) (d : Ended) → MayBeKeptOrLost d → MayHaveFate d.call (open_fate b)
open_may true d both = both.0
open_may false d both = both.1

-- ---- THE ENTRIES OF A LANE, of its answered calls, and of the call that is not answered

abbrev number_answered : Option Answer → Option ℕ
number_answered u = option_map (λ (a : Answer). a.number) u

module _ (names : Names) (k : ℕ) (flag : Bool) where
  abbrev answered_entry : Answer → Entry
  answered_entry a = entry_of names k a a.fate

  abbrev open_entry : Answer → Entry
  open_entry a = entry_of names k a (open_fate flag)

  abbrev pub entries_with : List Answer → Option Answer → List Entry
  entries_with xs u = map (λ (a : Answer). entry_of names k a a.fate) xs ++ map (λ (a : Answer). entry_of names k a (open_fate flag)) (option_to_list u)

  two_parts : (R : Answer → Ended → Type 0) (S : Entry → Ended → Type 0) (xs : List Answer) (u : Option Answer) (ds : List Ended)
      → ((a : Answer) (d : Ended) → R a d → S (answered_entry a) d)
      → ((a : Answer) (d : Ended) → u ≡ Some a → R a d → S (open_entry a) d)
      → AllZip R (xs ++ option_to_list u) ds → AllZip S (entries_with xs u) ds
  two_parts R S [] None [] f h zip = tt
  two_parts R S [] None (d ∷ ds) f h zip = absurd zip
  two_parts R S [] (Some a) [] f h zip = absurd zip
  two_parts R S [] (Some a) (d ∷ []) f h zip = (h a d refl zip.0, tt)
  two_parts R S [] (Some a) (d ∷ e ∷ ds) f h zip = absurd zip.1
  two_parts R S (x ∷ xs) u [] f h zip = absurd zip
  two_parts R S (x ∷ xs) u (d ∷ ds) f h zip = (f x d zip.0, two_parts R S xs u ds f h zip.1)

  -- WHAT A LANE LEFT, of the history g of which the calls are kept that `keep` tells
  pub record LaneLeft (g : Past) (keep : ℕ → Bool) (v : View) (xs : List Answer) (u : Option Answer) : Type 0 where
    pub entries : v.entries ≡ numbered_by k g.drew g.length
    pub shown : AllZip (IsAnswer names k) (xs ++ option_to_list u) (reverse (calls_ended v))
    pub answered : All (λ (a : Answer). is_answered a.fate ≡ true) xs
    pub open_ : EndsOpen (number_answered u) v
    pub either : (a : Answer) (d : Ended) → u ≡ Some a → IsAnswer names k a d → MayBeKeptOrLost d
    pub others : (number : Option ℕ) (call : ℕ) → EndsOpen number v → call < g.length → (g.drew call).fixed.lane ≡ k → number ≢ Some (suc call) → keep call ≡ true
    pub judged : (call : ℕ) → EndsOpen (Some (suc call)) v → call < g.length → (g.drew call).fixed.lane ≡ k → keep call ≡ flag

  module _ (g : Past) (keep : ℕ → Bool) (v : View) (xs : List Answer) where
    says_shown : (u : Option Answer) → LaneLeft g keep v xs u → AllZip (Shows k) (entries_with xs u) (told_by_lane k g)
    says_shown u left = two_parts (IsAnswer names k) (Shows k) xs u (told_by_lane k g)
        (λ a d is. record { number = is.number; lane_is = refl; shown = is.shown; fate = is.fate; ended = is.ended })
        (λ a d here is. record { number = is.number; lane_is = refl; shown = is.shown; fate = open_may flag d (left.either a d here is); ended = λ r refused. absurd (open_apart flag r refused) })
        (subst (λ (es : List Numbered). AllZip (IsAnswer names k) (xs ++ option_to_list u) (reverse (map ended_of es))) left.entries left.shown)

    settled : (u : Option Answer) → LaneLeft g keep v xs u → (e : Entry) → Has (map answered_entry xs) e → is_answered e.fate ≡ true
    settled u left e there =
        let m = in_map answered_entry xs e there in
        ap (λ (x : Entry). is_answered x.fate) (sym m.is) ∙ all_has (λ (a : Answer). is_answered a.fate ≡ true) xs m.of left.answered m.there

    below : (a : Answer) → LaneLeft g keep v xs (Some a) → (e : Entry) → Has (map answered_entry xs) e → e.number < a.number
    below a left e there =
        rises_to number_of (map answered_entry xs) (open_entry a) (shown_rise g k (entries_with xs (Some a)) (says_shown (Some a) left)) e there

    -- an answered call does not have the open one's number
    apart : (u : Option Answer) → LaneLeft g keep v xs u → (e : Entry) (n : ℕ) → Has (map answered_entry xs) e → e.number ≡ suc n → number_answered u ≢ Some (suc n)
    apart None left e n there number = λ same. cc
    apart (Some a) left e n there number = λ same.
        let is : a.number ≡ suc n = cc in
        let low = below a left e there in
        absurd (omega (arith, is, low, number))

    open_fates : (u : Option Answer) → LaneLeft g keep v xs u → (e : Entry) (n : ℕ) → Has (map open_entry (option_to_list u)) e → e.number ≡ suc n → n < g.length → (g.drew n).fixed.lane ≡ k → is_lost e.fate ≡ not (keep n)
    open_fates None left e n there number low of = absurd there
    open_fates (Some a) left e n (inl is) number low of =
        let same : a.number ≡ suc n = ap number_of is ∙ number in
        ap (λ (x : Entry). is_lost x.fate) (sym is) ∙ open_lost flag
        ∙ ap not (sym (left.judged n (subst (λ m. EndsOpen (Some m) v) same left.open_) low of))
    open_fates (Some a) left e n (inr none) number low of = absurd none

    fates_of : (u : Option Answer) → LaneLeft g keep v xs u → (e : Entry) (n : ℕ) → Has (entries_with xs u) e → e.number ≡ suc n → n < g.length → (g.drew n).fixed.lane ≡ k → is_lost e.fate ≡ not (keep n)
    fates_of u left e n there number low of = elim (in_either (map answered_entry xs) (map open_entry (option_to_list u)) e there) [
      | inl done ↦
          answered_not_lost e.fate (settled u left e done)
          ∙ ap not (sym (left.others (number_answered u) n left.open_ low of (apart u left e n done number)))
      | inr open_one ↦ open_fates u left e n open_one number low of
    ]

    not_after : (u : Option Answer) → LaneLeft g keep v xs u → (e f : Entry) → Has (map open_entry (option_to_list u)) e → Has (entries_with xs u) f → e.number < f.number → ⊥
    not_after None left e f there other less = there
    not_after (Some a) left e f (inl is) other less =
        let same : a.number ≡ e.number = ap number_of is in
        elim (in_either (map answered_entry xs) (open_entry a ∷ []) f other) [
          | inl done ↦ let low = below a left f done in omega (arith, same, low, less)
          | inr last ↦ elim last [
            | inl too ↦ let so : a.number ≡ f.number = ap number_of too in omega (arith, same, so, less)
            | inr none ↦ none
          ]
        ]
    not_after (Some a) left e f (inr none) other less = none

    pub lane_says : (u : Option Answer) → LaneLeft g keep v xs u → LaneSays g keep k (entries_with xs u)
    lane_says u left = record {
      shows = says_shown u left;
      fates = fates_of u left;
      open_last = λ e f there other less. elim (in_either (map answered_entry xs) (map open_entry (option_to_list u)) e there) [
        | inl done ↦ settled u left e done
        | inr open_one ↦ absurd (not_after u left e f open_one other less)
      ];
    }

  -- ---- THE LANE'S CALLS IN THE SCRIPT

  abbrev call_answered : Answer → Call
  call_answered a = call_of names k (lines_of a)

  calls_are : (xs : List Answer) (u : Option Answer) → map (λ (e : Entry). e.call) (entries_with xs u) ≡ map call_answered (xs ++ option_to_list u)
  calls_are [] None = refl
  calls_are [] (Some a) = refl
  calls_are (x ∷ xs) u = ap (λ (cs : List Call). call_answered x ∷ cs) (calls_are xs u)

  called : (ys : List Answer) → map call_answered ys ≡ map (call_of names k) (map lines_of ys)
  called [] = refl
  called (a ∷ ys) = ap (λ (cs : List Call). call_answered a ∷ cs) (called ys)

  -- one entry for each answer
  pub as_many : (xs : List Answer) (u : Option Answer)
      → length (entries_with xs u) ≡ length (xs ++ option_to_list u)
  as_many xs u =
      sym (length-map (entries_with xs u) (λ (e : Entry). e.call))
      ∙ ap (λ (cs : List Call). length cs) (calls_are xs u)
      ∙ length-map (xs ++ option_to_list u) call_answered

  pub first_calls : (xs : List Answer) (u : Option Answer) (ls : List (List ScriptLine))
      → map lines_of (xs ++ option_to_list u) ≡ take (length (xs ++ option_to_list u)) ls
      → map (λ (e : Entry). e.call) (entries_with xs u)
      ≡ take (length (entries_with xs u)) (map (call_of names k) ls)
  first_calls xs u ls is =
      let ys = xs ++ option_to_list u in
      calls_are xs u ∙ called ys
      ∙ ap (λ (l : List (List ScriptLine)). map (call_of names k) l) is
      ∙ sym (take-map (call_of names k) (length ys) ls)
      ∙ ap (λ (n : ℕ). take n (map (call_of names k) ls)) (sym (as_many xs u))

  pub all_answered : (xs : List Answer) → All (λ (a : Answer). is_answered a.fate ≡ true) xs → All (λ (e : Entry). is_answered e.fate ≡ true) (entries_with xs None)
  all_answered xs all = has_all (λ (e : Entry). is_answered e.fate ≡ true) (entries_with xs None) (λ e there.
      elim (in_either (map answered_entry xs) [] e there) [
        | inl done ↦
            let m = in_map answered_entry xs e done in
            ap (λ (x : Entry). is_answered x.fate) (sym m.is) ∙ all_has (λ (a : Answer). is_answered a.fate ≡ true) xs m.of all m.there
        | inr none ↦ absurd none
      ])
