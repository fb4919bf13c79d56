-- What a publish wants: each object that is to be freed, and then that of each action, for writing.
use Rattle.std.proofs.Common.{◌≡◌, ℕ, ◌+◌, ◌<◌, ◌≤◌, suc, true, set, List, [], ◌∷◌, ◌++◌, length, length-set, map, take, get_or, sym, ap, ◌∙◌, arith}
use Rattle.std.proofs.Math.Seq.{take-suc}
use Rattle.std.proofs.lemmas.List.{append_assoc, append-nil, map-append, take_all, take_more_set}
use Rattle.solo_model.specs.Actions.{Action, object_of, wants_for}
use Rattle.pm_objects.specs.declared.calls.Want.{Want}
use Rattle.pm_objects.specs.declared.ids.Oid.{Oid}
use Rattle.solo_pending.specs.Pending.{action_of, sets_of}
use Rattle.solo_pending.specs.declared.actions.SetAction.{SetAction}

abbrev pub want_of : Oid → Want
want_of id = record { id = id; write = true }

abbrev pub want_for : Action → Want
want_for a = want_of (object_of a)

abbrev pub no_id : Oid
no_id = record { pool = 0; off = 0 }

abbrev pub no_action : SetAction
no_action = record { id = no_id; off = 0; value = 0 }

-- what an action wants, by its place in the list
abbrev pub want_at : List SetAction → ℕ → Want
want_at xs i = want_for (action_of (get_or xs i no_action))

-- what one more free wants
pub freed_further : (ids : List Oid) (i : ℕ) → i < length ids → map want_of (take (i + 1) ids) ≡ map want_of (take i ids) ++ want_of (get_or ids i no_id) ∷ []
freed_further ids i low =
    let one : Oid = get_or ids i no_id in
    let more : i + 1 ≡ suc i = omega arith in
    ap (λ n. map want_of (take n ids)) more
    ∙ ap (map want_of) (take-suc ids i no_id low)
    ∙ map-append want_of (take i ids) (one ∷ [])

-- what one more action wants
pub wants_further : (xs : List SetAction) (i : ℕ) → i < length xs → wants_for (sets_of (take (i + 1) xs)) ≡ wants_for (sets_of (take i xs)) ++ want_at xs i ∷ []
wants_further xs i low =
    let one : SetAction = get_or xs i no_action in
    let more : i + 1 ≡ suc i = omega arith in
    ap (λ n. wants_for (sets_of (take n xs))) more
    ∙ ap (λ (ys : List SetAction). wants_for (sets_of ys)) (take-suc xs i no_action low)
    ∙ ap wants_for (map-append action_of (take i xs) (one ∷ []))
    ∙ map-append want_for (map action_of (take i xs)) (action_of one ∷ [])

-- ---- as the wants are listed

module _ (ids : List Oid) (xs : List SetAction) (few : length ids + length xs ≤ 63) where
  -- one more that is to be freed
  pub freed_listed : (wants : List Want) (i : ℕ) (w : Want) → length wants ≡ 63 → i < length ids → w ≡ want_of (get_or ids i no_id) → take i wants ≡ map want_of (take i ids)
      → (length (set wants i w) ≡ 63) × (take (i + 1) (set wants i w) ≡ map want_of (take (i + 1) ids))
  freed_listed wants i w wide low is so = (
    length-set wants i w ∙ wide,
    take_more_set wants i w (omega (arith, wide, low, few)) ∙ (λ k. so k ++ is k ∷ []) ∙ sym (freed_further ids i low),
  )

  -- all of these are listed
  pub all_freed_listed : (wants : List Want) (i : ℕ) → length ids ≤ i → i ≤ length ids → take i wants ≡ map want_of (take i ids) → take (length ids + 0) wants ≡ map want_of ids ++ []
  all_freed_listed wants i up low so =
      let all : length ids + 0 ≡ i = omega (arith, up, low) in
      ap (λ n. take n wants) all ∙ so ∙ ap (map want_of) (take_all i ids up) ∙ sym (append-nil (map want_of ids))

  -- and one more that is to be set
  pub set_listed : (wants : List Want) (j : ℕ) (w : Want) → length wants ≡ 63 → j < length xs → w ≡ want_at xs j → take (length ids + j) wants ≡ map want_of ids ++ wants_for (sets_of (take j xs))
      → (length (set wants (length ids + j) w) ≡ 63) × (take (length ids + (j + 1)) (set wants (length ids + j) w) ≡ map want_of ids ++ wants_for (sets_of (take (j + 1) xs)))
  set_listed wants j w wide low is so =
      let more : length ids + (j + 1) ≡ (length ids + j) + 1 = omega arith in (
        length-set wants (length ids + j) w ∙ wide,
        ap (λ n. take n (set wants (length ids + j) w)) more
            ∙ take_more_set wants (length ids + j) w (omega (arith, wide, low, few))
            ∙ (λ k. so k ++ is k ∷ [])
            ∙ append_assoc (map want_of ids) (wants_for (sets_of (take j xs))) (want_at xs j ∷ [])
            ∙ ap (λ (more : List Want). map want_of ids ++ more) (sym (wants_further xs j low)),
      )

  pub all_listed : (wants : List Want) (j : ℕ) → length xs ≤ j → j ≤ length xs → take (length ids + j) wants ≡ map want_of ids ++ wants_for (sets_of (take j xs)) → take (length ids + length xs) wants ≡ map want_of ids ++ wants_for (sets_of xs)
  all_listed wants j up low so =
      let all : length xs ≡ j = omega (arith, up, low) in
      ap (λ n. take (length ids + n) wants) all ∙ so ∙ ap (λ (ys : List SetAction). map want_of ids ++ wants_for (sets_of ys)) (take_all j xs up)
