-- Memory calls put together: some made, then others made or stopped.
use Rattle.std.proofs.Common.{◌≡◌, inl, inr, ℕ, ◌+◌, ◌-◌, ◌<◌, List, [], ◌∷◌, ◌++◌, refl, sym, ◌∙◌, ap, subst, arith, rules, Result, Ok, Err, IsErr, ◌/◌}
use Rattle.std.specs.List.{flat_map, range_with_len}
use Rattle.pm_memory.specs.Solo.{Solo, IsDue, IsSpent, says_stopped}
use Rattle.pm_image.proofs.Finding.{range_split}
use Rattle.pm_image.proofs.Ranges.{parts_more}
use Rattle.pm_record.specs.declared.redo.Op.{Op}
use Rattle.pm_record.specs.declared.redo.Redo.{Redo}
use Rattle.pm_memory.specs.declared.lane_mem.Stopped.{Stopped}
use Rattle.pm_reopen.specs.Plan.{MemoryCall}
use Rattle.pm_reopen.specs.Plan.MemoryCall.{Change}
use Rattle.pm_reopen.specs.Running.{Halts, Makes, MakesOrHalts, after_call, after_calls, after_change}
use Rattle.std.proofs.lemmas.List.{append_assoc}

pub makes_none : (m : Solo) → Makes m m []
unfolding Makes
makes_none m = refl

pub makes_one : (m n : Solo) (c : MemoryCall) → IsDue m → n ≡ after_call m c → Makes m n (c ∷ [])
unfolding Makes
makes_one m n c due is = (due, is)

pub halts_at : (m n : Solo) (c : MemoryCall) → IsSpent m → n ≡ says_stopped m → Halts m n (c ∷ [])
unfolding Halts
halts_at m n c spent is = inl (spent, is)

pub makes_then : (a b d : Solo) (xs ys : List MemoryCall) → Makes a b xs → Makes b d ys → Makes a d (xs ++ ys)
unfolding Makes
makes_then a b d [] ys before is = subst (λ (m : Solo). Makes m d ys) before is
makes_then a b d (x ∷ xs) ys before is = (before.0, makes_then (after_call a x) b d xs ys before.1 is)

pub halts_before : (a d : Solo) (xs ys : List MemoryCall) → Halts a d xs → Halts a d (xs ++ ys)
unfolding Halts
halts_before a d [] ys stops = absurd stops
halts_before a d (x ∷ xs) ys (inl here) = inl here
halts_before a d (x ∷ xs) ys (inr later) = inr (later.0, halts_before (after_call a x) d xs ys later.1)

pub halts_after : (a b d : Solo) (xs ys : List MemoryCall) → Makes a b xs → Halts b d ys → Halts a d (xs ++ ys)
unfolding Makes Halts
halts_after a b d [] ys before stops = subst (λ (m : Solo). Halts m d ys) before stops
halts_after a b d (x ∷ xs) ys before stops = inr (before.0, halts_after (after_call a x) b d xs ys before.1 stops)

-- the memory after calls that were all made
pub makes_is : (a b : Solo) (xs : List MemoryCall) → Makes a b xs → b ≡ after_calls a xs
unfolding Makes after_calls
makes_is a b [] is = is
makes_is a b (x ∷ xs) is = makes_is (after_call a x) b xs is.1

-- ---- calls made part by part

pub parts_made : (f : ℕ → List MemoryCall) (a b d : Solo) (k : ℕ) → Makes a b (flat_map f (range_with_len 0 k)) → Makes b d (f k) → Makes a d (flat_map f (range_with_len 0 (k + 1)))
parts_made f a b d k before is = subst (Makes a d) (sym (parts_more f k)) (makes_then a b d (flat_map f (range_with_len 0 k)) (f k) before is)

flat_map_split : (f : ℕ → List MemoryCall) (xs ys : List ℕ) → flat_map f (xs ++ ys) ≡ flat_map f xs ++ flat_map f ys
flat_map_split f [] ys = refl
flat_map_split f (x ∷ xs) ys = ap (λ (cs : List MemoryCall). f x ++ cs) (flat_map_split f xs ys) ∙ sym (append_assoc (f x) (flat_map f xs) (flat_map f ys))

pub parts_halt : (f : ℕ → List MemoryCall) (a b d : Solo) (k n : ℕ) → k < n → Makes a b (flat_map f (range_with_len 0 k)) → Halts b d (f k) → Halts a d (flat_map f (range_with_len 0 n))
parts_halt f a b d k n inside before stops =
    let rest : (m : ℕ) × (k + 1 + m ≡ n) = left in
    let first : 0 + (k + 1) ≡ k + 1 = omega arith in
    let whole : flat_map f (range_with_len 0 n) ≡ flat_map f (range_with_len 0 (k + 1)) ++ flat_map f (range_with_len (k + 1) rest.0) =
    ap (λ (j : ℕ). flat_map f (range_with_len 0 j)) (sym rest.1) ∙ ap (flat_map f) (range_split 0 (k + 1) rest.0) ∙ ap (λ (j : ℕ). flat_map f (range_with_len 0 (k + 1) ++ range_with_len j rest.0)) first ∙ flat_map_split f (range_with_len 0 (k + 1)) (range_with_len (k + 1) rest.0) in
    subst (Halts a d) (sym whole)
    (halts_before a d (flat_map f (range_with_len 0 (k + 1))) (flat_map f (range_with_len (k + 1) rest.0))
    (subst (Halts a d) (sym (parts_more f k)) (halts_after a b d (flat_map f (range_with_len 0 k)) (f k) before stops)))
  where
    left : (m : ℕ) × (k + 1 + m ≡ n)
    left = (n - (k + 1), omega arith)

-- ---- answers of calls

-- whatever an error answers, the calls stopped
pub ran_error : {U : Type 0} (a b : Solo) (xs : List MemoryCall) (result : Result U Stopped) → IsErr result → Halts a b xs → MakesOrHalts a b xs result
ran_error a b xs (Ok answer) error stops = absurd (search rules)
ran_error a b xs (Err stopped) error stops = stops

-- the first calls stopped, so all did
pub ran_err : {U : Type 0} (a b : Solo) (xs ys : List MemoryCall) (result : Result U Stopped) → IsErr result → Halts a b xs → MakesOrHalts a b (xs ++ ys) result
ran_err a b xs ys result error stops = ran_error a b (xs ++ ys) result error (halts_before a b xs ys stops)

-- the first were made, and then the others ran
pub ran_then : {U : Type 0} (a b d : Solo) (xs ys : List MemoryCall) (result : Result U Stopped) → Makes a b xs → MakesOrHalts b d ys result → MakesOrHalts a d (xs ++ ys) result
ran_then a b d xs ys (Ok answer) before made = makes_then a b d xs ys before made
ran_then a b d xs ys (Err stopped) before stops = halts_after a b d xs ys before stops

-- a change of the entry's word
pub change_made : (m n : Solo) (e : Redo) (o : Op) → e.op ≡ o → IsDue m → n ≡ after_change o m (e.place / 8) e.value → Makes m n (Change e ∷ [])
change_made m n e o of due is = makes_one m n (Change e) due (is ∙ ap (λ (p : Op). after_change p m (e.place / 8) e.value) (sym of))

-- calls made in one go, taken apart
pub makes_left : (a d : Solo) (xs ys : List MemoryCall) → Makes a d (xs ++ ys) → Makes a (after_calls a xs) xs
unfolding Makes after_calls
makes_left a d [] ys made = refl
makes_left a d (x ∷ xs) ys made = (made.0, makes_left (after_call a x) d xs ys made.1)

pub makes_right : (a d : Solo) (xs ys : List MemoryCall) → Makes a d (xs ++ ys) → Makes (after_calls a xs) d ys
unfolding Makes after_calls
makes_right a d [] ys made = made
makes_right a d (x ∷ xs) ys made = makes_right (after_call a x) d xs ys made.1
