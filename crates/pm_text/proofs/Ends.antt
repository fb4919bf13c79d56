-- The lines of how lanes ended, one lane more.
use Rattle.std.proofs.Common.{◌≡◌, ℕ, zero, suc, ◌+◌, ◌<◌, List, [], ◌∷◌, ◌++◌, length, take, get_or, sym, ap, ◌∙◌, arith, append_assoc, append-nil, codes}
use Rattle.std.specs.Fmt.{decimal}
use Rattle.std.specs.List.{enumerate_from, flat_map}
use Rattle.pm_text.specs.Report.{end_line, end_text}
use Rattle.pm_text.specs.declared.report.LaneEnd.{LaneEnd}

-- the first lines and one more are the first, with one more
pub one_more : {X : Type 0} (f : ℕ × X → List ℕ) (n k : ℕ) (xs : List X) (d : X) → k < length xs → flat_map f (enumerate_from n (take (suc k) xs)) ≡ flat_map f (enumerate_from n (take k xs)) ++ f (n + k, get_or xs k d)
one_more f n k [] d low = absurd (omega (arith, low))
one_more f n zero (x ∷ xs) d low = append-nil (f (n, x)) ∙ ap (λ m. f (m, x)) (let e : n ≡ n + 0 = omega arith in e)
one_more f n (suc k) (x ∷ xs) d low =
    ap (λ (ys : List ℕ). f (n, x) ++ ys) (one_more f (n + 1) k xs d (omega (arith, low)) ∙ ap (λ m. flat_map f (enumerate_from (n + 1) (take k xs)) ++ f (m, get_or xs k d)) (let e : n + 1 + k ≡ n + suc k = omega arith in e))
    ∙ sym (append_assoc (f (n, x)) (flat_map f (enumerate_from (n + 1) (take k xs))) (f (n + suc k, get_or xs k d)))

-- three parts, one behind the other
pub three : (text a b c x y z : List ℕ) → x ≡ text ++ a → y ≡ x ++ b → z ≡ y ++ c → z ≡ text ++ (a ++ b ++ c)
three text a b c x y z first second third =
    third ∙ ap (λ (xs : List ℕ). xs ++ c) (second ∙ ap (λ (xs : List ℕ). xs ++ b) first ∙ append_assoc text a b) ∙ append_assoc text (a ++ b) c

-- five parts
pub five : (text a b c d e v w x y z : List ℕ) → v ≡ text ++ a → w ≡ v ++ b → x ≡ w ++ c → y ≡ x ++ d → z ≡ y ++ e → z ≡ text ++ (a ++ b ++ c ++ d ++ e)
five text a b c d e v w x y z first second third fourth fifth =
    let front : x ≡ text ++ (a ++ b ++ c) = three text a b c v w x first second third in
    three text (a ++ b ++ c) d e x y z front fourth fifth

-- the line of one lane more
pub end_more : (text front x y z : List ℕ) (k : ℕ) (ends : List LaneEnd) (d : LaneEnd) → k < length ends → front ≡ text ++ flat_map end_line (enumerate_from 0 (take k ends)) → x ≡ front ++ codes "lane " → y ≡ x ++ decimal k
    → z ≡ y ++ end_text (get_or ends k d) → z ≡ text ++ flat_map end_line (enumerate_from 0 (take (k + 1) ends))
end_more text front x y z k ends d low before first second third =
    let more : List ℕ = end_line (k, get_or ends k d) in
    let lines : List ℕ = flat_map end_line (enumerate_from 0 (take k ends)) in
    third ∙ ap (λ (xs : List ℕ). xs ++ end_text (get_or ends k d)) (second ∙ ap (λ (xs : List ℕ). xs ++ decimal k) first ∙ append_assoc front (codes "lane ") (decimal k)) ∙ append_assoc front (codes "lane " ++ decimal k) (end_text (get_or ends k d))
    ∙ ap (λ (xs : List ℕ). front ++ xs) (append_assoc (codes "lane ") (decimal k) (end_text (get_or ends k d)))
    ∙ (ap (λ (xs : List ℕ). xs ++ more) before ∙ append_assoc text lines more)
    ∙ ap (λ (xs : List ℕ). text ++ xs) (ap (λ m. lines ++ end_line (m, get_or ends k d)) (let e : k ≡ 0 + k = omega arith in e) ∙ (sym (one_more end_line 0 k ends d low) ∙ ap (λ m. flat_map end_line (enumerate_from 0 (take m ends))) (let e : suc k ≡ k + 1 = omega arith in e)))
