-- What loads of known words find.
use Rattle.std.proofs.Common.{◌≡◌, ℕ, zero, suc, ◌+◌, ◌-◌, ◌<◌, List, [], ◌∷◌, ◌++◌, length, replicate, set, refl, sym, ap, ◌∙◌, arith, length-append}
use Rattle.std.proofs.lemmas.List.{append_assoc, set-append_right}
use Rattle.pm_view.specs.View.{View}
use Rattle.pm_view.specs.Views.{after_all}
use Rattle.pm_undo.specs.declared.spans.Span.{Span}
use Rattle.pm_plan.specs.Plans.{IsMade, Ready, Runs, known_word, looks, repeated}
use Rattle.pm_plan.proofs.Plans.{repeated_ready}
use Rattle.pm_undo.specs.Plans.{looked_first, looked_span, looked_words, looks_at, looks_first, looks_from}
use Rattle.pm_undo.specs.Spans.{span_at}

pub many_looked : (word n : ℕ) (v : View) → length (looked_words word n v) ≡ n
unfolding looked_words
many_looked word zero v = refl
many_looked word (suc n) v = let a = length-append (looked_words word n v) (known_word (after_all v (looks_from word n v)) (word + n) ∷ []) in let b = many_looked word n v in omega (arith, a, b)

pub none_looked : (word : ℕ) (v : View) → looked_words word 0 v ≡ []
unfolding looked_words
none_looked word v = refl

-- one word more of those that are found
pub found_more : (words : List ℕ) (word k x : ℕ) (v : View) → k < 4 → words ≡ looked_words word k v ++ replicate (4 - k) 0 → x ≡ known_word (after_all v (looks_from word k v)) (word + k)
    → set words k x ≡ looked_words word (k + 1) v ++ replicate (4 - (k + 1)) 0
unfolding looked_words
found_more words word k x v below so_far is =
    let front : List ℕ = looked_words word k v in
    let rest : List ℕ = replicate (4 - (k + 1)) 0 in
    let split : replicate (4 - k) 0 ≡ 0 ∷ rest = ap (λ n. replicate n 0) (let e : 4 - k ≡ suc (4 - (k + 1)) = omega (arith, below) in e) in
    let here : set words k x ≡ front ++ set (0 ∷ rest) (k - k) x =
    ap (λ l. set l k x) (so_far ∙ ap (λ l. front ++ l) split) ∙ set-append_right front (0 ∷ rest) k k x (many_looked word k v) (omega arith) in
    let first : set (0 ∷ rest) (k - k) x ≡ x ∷ rest = ap (λ n. set (0 ∷ rest) n x) (let e : k - k ≡ 0 = omega arith in e) in
    let next : suc k ≡ k + 1 = omega arith in
    here ∙ (ap (λ l. front ++ l) first ∙ (sym (append_assoc front (x ∷ []) rest) ∙ (ap (λ y. (front ++ y ∷ []) ++ rest) is ∙ ap (λ n. looked_words word n v ++ rest) next)))

-- so the load finds what the view before it knows
pub look_found : (old mid : View → Type 0) (word k n x : ℕ) → k < n → IsMade old mid (repeated (λ i. looks (word + i)) k) → ((u : View) → mid u → Ready u (looks (word + k) u) → x ≡ known_word u (word + k))
    → (v : View) → old v → Ready v (looks_from word n v) → x ≡ known_word (after_all v (looks_from word k v)) (word + k)
unfolding Runs looks_from
look_found old mid word k n x below made found v seen r =
    let t = repeated_ready (λ i. looks (word + i)) v n k below r in
    found (after_all v (repeated (λ i. looks (word + i)) k v)) (made v seen t.0) t.1

pub none_found : (spans : List Span) (v : View) → looked_first spans 0 v ≡ []
unfolding looked_first
none_found spans v = refl

-- and the same of spans
pub span_found : (old mid : View → Type 0) (spans : List Span) (k : ℕ) (x : Rattle.pm_world.specs.declared.lane.KeptRecord.KeptRecord) → k < length spans → IsMade old mid (repeated (λ i. looks_from (span_at spans i).word (span_at spans i).count) k)
    → ((u : View) → mid u → Ready u (looks_from (span_at spans k).word (span_at spans k).count u) → x ≡ looked_span (span_at spans k) u)
    → (v : View) → old v → Ready v (looks_at spans v) → looked_first spans k v ++ x ∷ [] ≡ looked_first spans (k + 1) v
unfolding Runs looks_at looks_first looked_first
span_found old mid spans k x below made found v seen r =
    let t = repeated_ready (λ i. looks_from (span_at spans i).word (span_at spans i).count) v (length spans) k below r in
    let next : suc k ≡ k + 1 = omega arith in
    ap (λ y. looked_first spans k v ++ y ∷ []) (found (after_all v (repeated (λ i. looks_from (span_at spans i).word (span_at spans i).count) k v)) (made v seen t.0) t.1) ∙ ap (λ n. looked_first spans n v) next

abbrev pub kept_as : Span → List ℕ → Rattle.pm_world.specs.declared.lane.KeptRecord.KeptRecord
kept_as s old = record { word = s.word; count = s.count; old = old }
