-- Lists of stops while they are read, part by part.
use Rattle.std.proofs.Common.{◌≡◌, ◌≢◌, ⊎_elim, ℕ, ◌+◌, ◌<◌, ◌≤◌, ◌==◌, true, false, List, [], ◌∷◌, ◌++◌, length, drop, get_or, Option, Some, None, sym, ap, ◌∙◌, subst, arith, length-append, eq-eqb}
use Rattle.std.specs.List.{after_first, list_any, position_or_len}
use Rattle.std.specs.Option.{IfNone, MatchOption}
use Rattle.std.proofs.Math.Nat.{eq-or-lt_of_le}
use Rattle.std.proofs.lemmas.Bool.{false≢true, eqb-true}
use Rattle.std.proofs.lemmas.List.{drop_all, ext_get_or, get_or_default}
use Rattle.std.proofs.lemmas.List.Folds.{Any-from_list_any, list_any_at}
use Rattle.std.proofs.Math.ListN.{get_or-append}
use Rattle.std.proofs.Math.Seq.{get_or-append_seam}
use Rattle.std.proofs.lemmas.Option.{none-some}
use Rattle.solo_script.specs.Numbers.{number_of}
use Rattle.solo_script.specs.Stops.{AreStopsOf, IsStop, stop_at}

-- these stops are the first so many parts
pub record AreFirst (parts : List (List ℕ)) (k : ℕ) (stops : List (ℕ × ℕ)) : Type 0 where
  pub count : length stops ≡ k
  pub each : (i : ℕ) → i < length stops → IsStop (get_or parts i []) (stop_at stops i)
  pub once : (i j : ℕ) → i < j → j < length stops → (stop_at stops i).0 ≢ (stop_at stops j).0

pub none_yet : (parts : List (List ℕ)) (stops : List (ℕ × ℕ)) → stops ≡ [] → AreFirst parts 0 stops
none_yet parts stops none =
    let few : length stops ≡ 0 = ap length none in
    record { count = few; each = λ i low. absurd (omega (arith, few, low)); once = λ i j below low. absurd (omega (arith, few, low)) }

pub all_read : (parts : List (List ℕ)) (k : ℕ) (stops : List (ℕ × ℕ)) → AreFirst parts k stops → k ≡ length parts → AreStopsOf parts stops
all_read parts k stops first all = record { count = first.count ∙ all; each = first.each; once = first.once }

-- a text is a stop of one lane at most
one_lane : (text : List ℕ) (a b : ℕ × ℕ) → IsStop text a → IsStop text b → a.0 ≡ b.0
one_lane text a b first second = let same : Some a.0 ≡ Some b.0 = sym first.0 ∙ second.0 in cc

-- a text is one stop at most
one_stop : (text : List ℕ) (a b : ℕ × ℕ) → IsStop text a → IsStop text b → a ≡ b
one_stop text a b first second =
    let lane : a.0 ≡ b.0 = one_lane text a b first second in
    let calls : a.1 ≡ b.1 = let same : Some a.1 ≡ Some b.1 = sym first.1 ∙ second.1 in cc in
    λ i. (lane i, calls i)

-- parts are one list of stops at most
pub stops_once : (parts : List (List ℕ)) (one other : List (ℕ × ℕ)) → AreStopsOf parts one → AreStopsOf parts other → one ≡ other
stops_once parts one other s t =
    let count : length one ≡ length other = s.count ∙ sym t.count in
    ext_get_or (0, 0) one other count (λ i low. one_stop (get_or parts i []) (stop_at one i) (stop_at other i) (s.each i low) (t.each i (omega (arith, count, low))))

module _ (parts : List (List ℕ)) (k : ℕ) (stops : List (ℕ × ℕ)) (first : AreFirst parts k stops) (low : k < length parts) where
  -- part k is no stop
  pub no_stop : ((stop : ℕ × ℕ) → IsStop (get_or parts k []) stop → ⊥) → (all : List (ℕ × ℕ)) → AreStopsOf parts all → ⊥
  no_stop none all are = none (stop_at all k) (are.each k (let many = are.count in omega (arith, many, low)))

  module _ (stop : ℕ × ℕ) (is : IsStop (get_or parts k []) stop) where
    -- part k is of a lane that an earlier one is of
    pub twice : list_any (λ (s : ℕ × ℕ). s.0 == stop.0) stops ≡ true → (all : List (ℕ × ℕ)) → AreStopsOf parts all → ⊥
    twice there all are =
        let t = Any-from_list_any (λ (s : ℕ × ℕ). s.0 == stop.0) stops there in
        let many = are.count in
        let count = first.count in
        let before : t.0 < k = let below = t.2 in omega (arith, count, below) in
        let earlier : (stop_at all t.0).0 ≡ (stop_at stops t.0).0 = one_lane (get_or parts t.0 []) (stop_at all t.0) (stop_at stops t.0) (are.each t.0 (omega (arith, many, before, low))) (first.each t.0 t.2) in
        let this : (stop_at all k).0 ≡ stop.0 = one_lane (get_or parts k []) (stop_at all k) stop (are.each k (omega (arith, many, low))) is in
        let found : (stop_at stops t.0).0 ≡ stop.0 = ap (λ (s : ℕ × ℕ). s.0) (get_or_default stops t.0 (0, 0) t.1 t.2 ∙ t.3) ∙ eqb-true t.1.0 stop.0 t.4 in
        are.once t.0 k before (omega (arith, many, low)) (earlier ∙ (found ∙ sym this))

    -- part k is one stop more
    pub one_more : list_any (λ (s : ℕ × ℕ). s.0 == stop.0) stops ≡ false → (new : List (ℕ × ℕ)) → new ≡ stops ++ stop ∷ [] → AreFirst parts (k + 1) new
    one_more none new is_new =
        subst (AreFirst parts (k + 1)) (sym is_new) (record {
          count = length-append stops (stop ∷ []) ∙ ap (λ n. n + 1) first.count;
          each = λ i inside. ⊎_elim
              (λ (last : i ≡ k). subst (λ n. IsStop (get_or parts n []) (stop_at all n)) (sym last) (subst (IsStop (get_or parts k [])) (sym at_last) is))
              (λ (front : i < k). subst (IsStop (get_or parts i [])) (sym (at_front i front)) (first.each i (inside_front i front)))
              (eq-or-lt_of_le (let e : i ≤ k = let n = length-append stops (stop ∷ []) in let count = first.count in omega (arith, inside, n, count) in e));
          once = λ i j below inside. ⊎_elim
              (λ (last : j ≡ k).
              let front : i < k = omega (arith, below, last) in
              λ same. absurd (false≢true (sym none ∙ list_any_at (λ (s : ℕ × ℕ). s.0 == stop.0) stops i (0, 0) (inside_front i front)
              (eq-eqb (stop_at stops i).0 stop.0 (sym (ap (λ (s : ℕ × ℕ). s.0) (at_front i front)) ∙ (same ∙ (ap (λ n. (stop_at all n).0) last ∙ ap (λ (s : ℕ × ℕ). s.0) at_last)))))))
              (λ (front : j < k).
              λ same. first.once i j below (inside_front j front) (sym (ap (λ (s : ℕ × ℕ). s.0) (at_front i (omega (arith, below, front)))) ∙ (same ∙ ap (λ (s : ℕ × ℕ). s.0) (at_front j front))))
              (eq-or-lt_of_le (let e : j ≤ k = let n = length-append stops (stop ∷ []) in let count = first.count in omega (arith, inside, n, count) in e));
        }) where
          all : List (ℕ × ℕ)
          all = stops ++ stop ∷ []

          inside_front : (i : ℕ) → i < k → i < length stops
          inside_front i front = let count = first.count in omega (arith, count, front)

          at_front : (i : ℕ) → i < k → stop_at (stops ++ stop ∷ []) i ≡ stop_at stops i
          at_front i front = get_or-append stops (stop ∷ []) (0, 0) i (let count = first.count in omega (arith, count, front))

          at_last : stop_at (stops ++ stop ∷ []) k ≡ stop
          at_last = ap (stop_at (stops ++ stop ∷ [])) (sym first.count) ∙ get_or-append_seam stops stop [] (0, 0)

-- behind a colon that is not there stands nothing, so the text is no stop
pub no_colon : (text : List ℕ) → position_or_len (λ b. b == 58) text ≡ length text → (stop : ℕ × ℕ) → IsStop text stop → ⊥
unfolding number_of
no_colon text none stop is =
    let nothing : after_first (λ b. b == 58) text ≡ [] = ap (λ n. drop (n + 1) text) none ∙ drop_all (length text + 1) text (omega arith) in
    let no_number : None ≡ Some stop.1 = sym (ap number_of nothing) ∙ is.1 in
    none-some stop.1 no_number

-- the text has no colon, and the answer is none
pub nothing_split : {X Y : Type 0} (text : List ℕ) (r : Option X) (P : X → Type 0) (answer : Option Y) → MatchOption r (position_or_len (λ b. b == 58) text ≡ length text) P → r ≡ None → answer ≡ None
    → IfNone answer ((stop : ℕ × ℕ) → IsStop text stop → ⊥)
nothing_split text (Some x) P answer found is none = absurd (none-some x (sym is))
nothing_split text None P answer found is none = subst (λ a. IfNone a ((stop : ℕ × ℕ) → IsStop text stop → ⊥)) (sym none) (no_colon text found)
