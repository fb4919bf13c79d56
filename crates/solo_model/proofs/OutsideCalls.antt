-- A call outside of a transaction changes the objects that it locks alone, and goes alike where they are the same.
use Rattle.std.proofs.Common.{◌≡◌, ⊎_elim, ℕ, ◌<◌, All, List, [], ◌∷◌, ◌++◌, get_or, map, Option, Some, None, MatchOption, Bool, true, false, cond, eqb, not, ◌&&◌, ◌||◌, refl, sym, ◌∙◌, ap, subst}
use Rattle.std.specs.Prelude.{IsSome}
use Rattle.std.specs.List.{find, list_any}
use Rattle.std.specs.Option.{option_map}
use Rattle.std.proofs.lemmas.Bool.{cases_Bool, false≢true, and_from, eq-eqb, or_left, or_right}
use Rattle.std.proofs.lemmas.List.{get_or-map, length-map}
use Rattle.std.proofs.lemmas.List.Elements.{All-head, All-tail}
use Rattle.std.proofs.lemmas.List.Folds.{list_any-append, list_any_at}
use Rattle.pm_objects.specs.Pool.{Objects, object_at}
use Rattle.pm_objects.specs.declared.calls.Operation.{Operation}
use Rattle.pm_objects.specs.declared.calls.Operation.TheVariants.{Free, Reserve, SetValue, Publish, Cancel}
use Rattle.pm_objects.specs.declared.calls.Want.{Want}
use Rattle.pm_objects.specs.declared.history.Value.{Value}
use Rattle.pm_objects.specs.declared.history.Value.TheVariants.{Offset, Refused}
use Rattle.pm_objects.specs.declared.ids.Oid.{Oid}
use Rattle.pm_objects.specs.declared.pool.Object.{Object}
use Rattle.pm_objects.specs.declared.pool.PoolView.{PoolView}
use Rattle.pm_objects.specs.declared.refusal.Refusal.{Refusal}
use Rattle.pm_objects.specs.declared.refusal.Refusal.TheVariants as refusal
use Rattle.solo_model.specs.Actions.{Action, Pending, object_of, passes_object, wants_for, wants_pending, with_actions}
use Rattle.solo_model.specs.Checks.{Seen, finds_no_space, frees_listed, frees_root, is_bad_size, is_free, is_publish, is_unaligned, lacks_reservation, publishes_late, puts_past_end}
use Rattle.solo_model.specs.Names.{changes_blocks, is_missed, is_wanted, locks, named_by, wants_taken}
use Rattle.solo_model.specs.Transaction.{published}
use Rattle.solo_model.specs.Outside.{AnswersOutside, AreNamed, IsDoneOutside, IsRefusedOutside, IsValueOutside, Outside, after_outside, all_done, as_resting, checks_outside, done_outside, has_no_room, names_missing, names_no_place, names_past_end, refusal_outside, stands_outside, wants_outside}
use Rattle.solo_model.specs.Step.{State, Act, OutsideStep}
use Rattle.solo_model.proofs.Alike.{all_alike, stands_plain}
use Rattle.solo_model.proofs.Asked.{IsPlain, NonePasses, frees_no_root, frees_none_listed, none_passes, published_plain, same_passes, unmapped}
use Rattle.solo_model.proofs.Kept.{IsChangedIn, MayPerform, actions_changed, unchanged}

-- where nothing is to be freed the objects are wanted that are to be set
wants_plain : (p : Pending) → IsPlain p → wants_pending p ≡ wants_for p.sets
wants_plain p plain = ap (λ (ids : List Oid). map (λ (id : Oid). record { id = id; write = true }) ids ++ wants_for p.sets) plain.frees

-- each object of the actions is wanted for writing
wanted_each : (actions : List Action) (rest : List Want) (write : Bool) → All (λ (a : Action). is_wanted (wants_for actions ++ rest) (object_of a).off write ≡ true) actions
wanted_each actions rest write k d inside =
    let a : Action = get_or actions k d in
    let off : ℕ = (object_of a).off in
    let want : Action → Want = λ b. record { id = object_of b; write = true } in
    let asks : Want → Bool = λ w. eqb w.id.off off && (w.write || not write) in
    list_any-append asks (wants_for actions) rest
    ∙ or_left (list_any asks (wants_for actions)) (list_any asks rest)
    (list_any_at asks (wants_for actions) k (want d) (subst (λ (n : ℕ). k < n) (sym (length-map actions want)) inside)
    (ap asks (get_or-map want actions k d (want d) inside) ∙ and_from (eqb off off) true (eq-eqb off off refl) refl))

passes_none : (p : Action → Bool) (actions : List Action) → list_any p actions ≡ false → All (λ (a : Action). p a ≡ false) actions
passes_none p actions none k d inside =
    ⊎_elim (λ (passes : p (get_or actions k d) ≡ true). absurd (false≢true (sym none ∙ list_any_at p actions k d inside passes))) (λ (fails : p (get_or actions k d) ≡ false). fails) (cases_Bool (p (get_or actions k d)))

-- what a call that is not refused passed: no end of an object, and nothing is freed that is the root, in a list, or has members
pub record HasPassed (s : Outside) (op : Operation) : Type 0 where
  pub end : names_past_end s op ≡ false
  pub root : frees_root (as_resting s) op ≡ false
  pub list : frees_listed (as_resting s) op ≡ false

pub passed_outside : (seen : Seen) (s : Outside) (op : Operation) → refusal_outside seen s op ≡ None → HasPassed s op
unfolding refusal_outside NonePasses
passed_outside seen s op none =
    let passed : NonePasses (λ (check : Refusal × Bool). check.1) (checks_outside seen s op) =
    none_passes (λ (check : Refusal × Bool). check.1) (checks_outside seen s op) (unmapped (λ (check : Refusal × Bool). check.0) (find (λ (check : Refusal × Bool). check.1) (checks_outside seen s op)) none) in
    record { end = passed.1.1.1.1.1.1.1.1.1.0; root = passed.1.1.1.1.1.1.1.0; list = passed.1.1.1.1.1.1.1.1.0 }

-- what is published of words alone sets them
pub done_plain : (s : Outside) → IsPlain s.actions → all_done (published (as_resting s)) ≡ with_actions s.actions.sets s.pool
done_plain s plain = ap all_done (published_plain (as_resting s) plain)

-- what a done operation leaves
done_changed : (W : ℕ → Bool) (op : Operation) (s : Outside) → IsPlain s.actions → (op ≡ Publish → All (MayPerform W s.pool) s.actions.sets) → IsChangedIn W s.pool (done_outside op s).pool
done_changed W Publish s plain may = subst (IsChangedIn W s.pool) (sym (done_plain s plain)) (actions_changed W s.pool s.actions.sets s.pool (unchanged W s.pool) (may refl))
done_changed W op s plain may = unchanged W s.pool

-- a reservation leaves the pool, and all else what it does
pub after_done : (s : Outside) (op : Operation) (reply : Option Value) → IsValueOutside s op reply → (after_outside op reply s).pool ≡ (done_outside op s).pool
after_done s (Reserve size kind) reply value = ap (λ (x : Option Value). (after_outside (Reserve size kind) x s).pool) value.2
after_done s op reply value = ap (λ (x : Option Value). (after_outside op x s).pool) value

-- what is done is not told as missing
unmissed : (s : Outside) (op : Operation) (reply : Option Value) → IsValueOutside s op reply → is_missed reply ≡ false
unmissed s (Reserve size kind) reply value = ap is_missed value.2
unmissed s op reply value = ap is_missed value

-- a publish gives no value
silent_publish : (s : Outside) (op : Operation) (reply : Option Value) → op ≡ Publish → IsValueOutside s op reply → reply ≡ None
silent_publish s op reply publishes value = subst (λ (o : Operation). IsValueOutside s o reply → reply ≡ None) (sym publishes) (λ v. v) value

left_changed : (W : ℕ → Bool) (op : Operation) (reply : Option Value) (s : Outside) (fr : Option Refusal) → IsPlain s.actions → MatchOption fr (IsDoneOutside s op reply) (λ r. IsRefusedOutside r reply)
    → (fr ≡ None → op ≡ Publish → reply ≡ None → All (MayPerform W s.pool) s.actions.sets) → IsChangedIn W s.pool (after_outside op reply s).pool
left_changed W op reply s None plain done may =
    subst (IsChangedIn W s.pool) (sym (after_done s op reply done.value)) (done_changed W op s plain (λ publishes. may refl publishes (silent_publish s op reply publishes done.value)))
left_changed W op reply s (Some r) plain is may = subst (λ (x : Option Value). IsChangedIn W s.pool (after_outside op x s).pool) (sym is.told) (unchanged W s.pool)

-- the pool after the call is the one before it, but for objects that it locks for writing
pub outside_changed : (act : Act) (s t : State) → IsPlain act.actions → OutsideStep s act t → IsChangedIn (λ off. locks act off true) s.pool t.pool
outside_changed act s t plain step =
    let W : ℕ → Bool = λ off. locks act off true in
    let from : Outside = record { pool = s.pool; actions = act.actions } in
    subst (IsChangedIn W s.pool) (sym (ap (λ (v : State). v.pool) step.leaves.leaves))
    (left_changed W step.operation step.reply from (refusal_outside step.answers.seen from step.operation) plain step.answers.answer
    (λ none publishes silent k d inside. (
      ap (λ told. is_wanted (named_by act.actions told ++ wants_taken told) (object_of (get_or act.actions.sets k d)).off true) step.alone
          ∙ (ap (λ (x : Option Value). is_wanted (cond (is_missed x) [] (wants_outside step.operation act.actions) ++ wants_taken (record { operation = step.operation; reply = step.reply } ∷ [])) (object_of (get_or act.actions.sets k d)).off true) silent
          ∙ (ap (λ (op : Operation). is_wanted (wants_outside op act.actions ++ wants_taken (record { operation = step.operation; reply = step.reply } ∷ [])) (object_of (get_or act.actions.sets k d)).off true) publishes
          ∙ (ap (λ (wants : List Want). is_wanted (wants ++ wants_taken (record { operation = step.operation; reply = step.reply } ∷ [])) (object_of (get_or act.actions.sets k d)).off true) (wants_plain act.actions plain)
          ∙ wanted_each act.actions.sets (wants_taken (record { operation = step.operation; reply = step.reply } ∷ [])) true k d inside))),
      passes_none (passes_object s.pool.objects) act.actions.sets (sym (ap (names_past_end from) publishes) ∙ (passed_outside step.answers.seen from step.operation none).end) k d inside,
    )))

-- the rows of the checks, for any answers
out_rows : Bool → Bool → Bool → Bool → Bool → Bool → Bool → Bool → Bool → Bool → Bool → Bool → List (Refusal × Bool)
out_rows spent unaligned bad_size lacks no_place missing late of_root listed past_end full no_space =
    (refusal.Spent, spent)
    ∷ (refusal.Unaligned, unaligned)
    ∷ (refusal.BadSize, bad_size)
    ∷ (refusal.NotReserved, lacks)
    ∷ (refusal.NoObject, no_place)
    ∷ (refusal.NoObject, missing)
    ∷ (refusal.NoObject, late)
    ∷ (refusal.RootKept, of_root)
    ∷ (refusal.Listed, listed)
    ∷ (refusal.OutOfRange, past_end)
    ∷ (refusal.ActionsFull, full)
    ∷ (refusal.NoSpace, no_space)
    ∷ []

out_first : List (Refusal × Bool) → Option Refusal
out_first checks = option_map (λ check. check.0) (find (λ check. check.1) checks)

-- where an object is missed, its end is not looked at
end_unseen : (spent unaligned bad_size lacks no_place missing late of_root listed one other full no_space : Bool) → (no_place || (missing || late)) ≡ true
    → out_first (out_rows spent unaligned bad_size lacks no_place missing late of_root listed one full no_space) ≡ out_first (out_rows spent unaligned bad_size lacks no_place missing late of_root listed other full no_space)
unfolding out_rows out_first
end_unseen true unaligned bad_size lacks no_place missing late of_root listed one other full no_space e = refl
end_unseen false true bad_size lacks no_place missing late of_root listed one other full no_space e = refl
end_unseen false false true lacks no_place missing late of_root listed one other full no_space e = refl
end_unseen false false false true no_place missing late of_root listed one other full no_space e = refl
end_unseen false false false false true missing late of_root listed one other full no_space e = refl
end_unseen false false false false false true late of_root listed one other full no_space e = refl
end_unseen false false false false false false true of_root listed one other full no_space e = refl
end_unseen false false false false false false false of_root listed one other full no_space e = absurd (false≢true e)

-- and where none is, no object is told as missing
abbrev is_told_missing : Option Refusal → Bool
is_told_missing None = false
is_told_missing (Some r) = is_missed (Some (Refused r))

told_else : (spent unaligned bad_size lacks no_place missing late of_root listed past_end full no_space : Bool) (r : Refusal) → (no_place || (missing || late)) ≡ false
    → out_first (out_rows spent unaligned bad_size lacks no_place missing late of_root listed past_end full no_space) ≡ Some r → is_missed (Some (Refused r)) ≡ false
unfolding out_rows out_first
told_else spent unaligned bad_size lacks true missing late of_root listed past_end full no_space r e is = absurd (false≢true (sym e))
told_else spent unaligned bad_size lacks false true late of_root listed past_end full no_space r e is = absurd (false≢true (sym e))
told_else spent unaligned bad_size lacks false false true of_root listed past_end full no_space r e is = absurd (false≢true (sym e))
told_else true unaligned bad_size lacks false false false of_root listed past_end full no_space r e is = ap is_told_missing (sym is)
told_else false true bad_size lacks false false false of_root listed past_end full no_space r e is = ap is_told_missing (sym is)
told_else false false true lacks false false false of_root listed past_end full no_space r e is = ap is_told_missing (sym is)
told_else false false false true false false false of_root listed past_end full no_space r e is = ap is_told_missing (sym is)
told_else false false false false false false false true listed past_end full no_space r e is = ap is_told_missing (sym is)
told_else false false false false false false false false true past_end full no_space r e is = ap is_told_missing (sym is)
told_else false false false false false false false false false true full no_space r e is = ap is_told_missing (sym is)
told_else false false false false false false false false false false true no_space r e is = ap is_told_missing (sym is)
told_else false false false false false false false false false false false true r e is = ap is_told_missing (sym is)
told_else false false false false false false false false false false false false r e is = ap is_told_missing (sym is)

-- actions on objects that are the same pass their ends alike
same_pasts : (one other : Objects) (actions : List Action) → All (λ (a : Action). object_at one (object_of a).off ≡ object_at other (object_of a).off) actions → list_any (passes_object one) actions ≡ list_any (passes_object other) actions
same_pasts one other [] same = refl
same_pasts one other (a ∷ actions) same =
    let p : Action → Type 0 = λ b. object_at one (object_of b).off ≡ object_at other (object_of b).off in
    let first : passes_object one a ≡ passes_object other a = same_passes one other a (All-head p a actions same) in
    let rest : list_any (passes_object one) actions ≡ list_any (passes_object other) actions = same_pasts one other actions (All-tail p a actions same) in
    (λ i. first i || rest i)

same_publish : (publishes : Bool) (one other : Objects) (actions : List Action) → (publishes ≡ true → All (λ (a : Action). object_at one (object_of a).off ≡ object_at other (object_of a).off) actions)
    → (publishes && list_any (passes_object one) actions) ≡ (publishes && list_any (passes_object other) actions)
same_publish true one other actions same = same_pasts one other actions (same refl)
same_publish false one other actions same = refl

-- an operation that is done over other objects
module _ (op : Operation) (reply : Option Value) (pool : PoolView) (objects : Objects) (root : Option ℕ) (actions : Pending) (plain : IsPlain actions) (stands : stands_outside op ≡ true) (keeps : changes_blocks op reply ≡ false)
    (same : is_missed reply ≡ false → (off : ℕ) → is_wanted (wants_outside op actions) off false ≡ true → object_at objects off ≡ object_at pool.objects off) where
  abbrev here : Outside
  here = record { pool = pool; actions = actions }

  abbrev there : Outside
  there = record { pool = record pool { objects = objects; root = root }; actions = actions }

  named_same : is_missed reply ≡ false → op ≡ Publish → All (λ (a : Action). object_at objects (object_of a).off ≡ object_at pool.objects (object_of a).off) actions.sets
  named_same found publishes k d inside =
      same found (object_of (get_or actions.sets k d)).off
      (ap (λ (o : Operation). is_wanted (wants_outside o actions) (object_of (get_or actions.sets k d)).off false) publishes
      ∙ (ap (λ (wants : List Want). is_wanted wants (object_of (get_or actions.sets k d)).off false) (wants_plain actions plain) ∙ wanted k d inside)) where
        wanted : All (λ (a : Action). is_wanted (wants_for actions.sets) (object_of a).off false ≡ true) actions.sets
        wanted j e low = wanted_alone j e low where
          wanted_alone : All (λ (a : Action). is_wanted (wants_for actions.sets) (object_of a).off false ≡ true) actions.sets
          wanted_alone i f within =
              let a : Action = get_or actions.sets i f in
              let off : ℕ = (object_of a).off in
              let want : Action → Want = λ b. record { id = object_of b; write = true } in
              let asks : Want → Bool = λ w. eqb w.id.off off && (w.write || not false) in
              list_any_at asks (wants_for actions.sets) i (want f) (subst (λ (n : ℕ). i < n) (sym (length-map actions.sets want)) within)
              (ap asks (get_or-map want actions.sets i f (want f) within) ∙ and_from (eqb off off) true (eq-eqb off off refl) refl)

  is_publish-publish : is_publish op ≡ true → op ≡ Publish
  is_publish-publish e = by op e where
    by : (o : Operation) → is_publish o ≡ true → o ≡ Publish
    by Publish e' = refl
    by o e' = absurd (false≢true e')

  same_past : is_missed reply ≡ false → names_past_end there op ≡ names_past_end here op
  same_past found =
      ap (λ (b : Bool). puts_past_end actions op || b) (same_publish (is_publish op) objects pool.objects actions.sets (λ publishes. named_same found (is_publish-publish publishes)))

  not_free : is_free op ≡ false
  not_free = by op stands where
    by : (o : Operation) → stands_outside o ≡ true → is_free o ≡ false
    by (Free id) e = absurd (false≢true e)
    by o e = refl

  -- nothing is freed here or there
  roots : frees_root (as_resting there) op ≡ frees_root (as_resting here) op
  roots = frees_no_root (as_resting there) op not_free plain ∙ sym (frees_no_root (as_resting here) op not_free plain)

  lists : frees_listed (as_resting there) op ≡ frees_listed (as_resting here) op
  lists = frees_none_listed (as_resting there) op not_free plain ∙ sym (frees_none_listed (as_resting here) op not_free plain)

  abbrev first_by : Seen → Bool → Bool → Bool → Option Refusal
  first_by seen of_root listed past_end =
      out_first (out_rows seen.spent (is_unaligned op) (is_bad_size op) (lacks_reservation pool actions op) (names_no_place here op) (names_missing seen here op) (publishes_late actions op) of_root listed past_end (has_no_room here op) (finds_no_space seen op))

  abbrev is_missing : Seen → Bool
  is_missing seen = names_no_place here op || (names_missing seen here op || publishes_late actions op)

  same_refusal_outside : (seen : Seen) → MatchOption (refusal_outside seen here op) (IsDoneOutside here op reply) (λ r. IsRefusedOutside r reply) → refusal_outside seen there op ≡ refusal_outside seen here op
  unfolding refusal_outside out_rows out_first
  same_refusal_outside seen answer =
      (λ j. first_by seen (roots j) (lists j) (names_past_end there op))
      ∙ ⊎_elim
      (λ (missed : is_missing seen ≡ true).
      end_unseen seen.spent (is_unaligned op) (is_bad_size op) (lacks_reservation pool actions op) (names_no_place here op) (names_missing seen here op) (publishes_late actions op)
      (frees_root (as_resting here) op) (frees_listed (as_resting here) op) (names_past_end there op) (names_past_end here op) (has_no_room here op) (finds_no_space seen op) missed)
      (λ (found : is_missing seen ≡ false).
      ap (first_by seen (frees_root (as_resting here) op) (frees_listed (as_resting here) op)) (same_past (not_missed (refusal_outside seen here op) refl answer found)))
      (cases_Bool (is_missing seen)) where
        not_missed : (fr : Option Refusal) → refusal_outside seen here op ≡ fr → MatchOption fr (IsDoneOutside here op reply) (λ r. IsRefusedOutside r reply) → is_missing seen ≡ false → is_missed reply ≡ false
        not_missed None is done found = unmissed here op reply done.value
        not_missed (Some r) is refused found =
            ap is_missed refused.told
            ∙ told_else seen.spent (is_unaligned op) (is_bad_size op) (lacks_reservation pool actions op) (names_no_place here op) (names_missing seen here op) (publishes_late actions op)
            (frees_root (as_resting here) op) (frees_listed (as_resting here) op) (names_past_end here op) (has_no_room here op) (finds_no_space seen op) r found is

  -- what a call that keeps every block answers it answers there
  value_there : IsValueOutside here op reply → IsValueOutside there op reply
  value_there value = by op keeps value where
    by : (o : Operation) → changes_blocks o reply ≡ false → IsValueOutside here o reply → IsValueOutside there o reply
    by (Reserve size kind) keeps v = absurd (false≢true (sym keeps ∙ ap (λ (x : Option Value). changes_blocks (Reserve size kind) x) v.2))
    by o keeps v = v

  -- each object that is named is there
  named_there : is_missed reply ≡ false → AreNamed here op → AreNamed there op
  named_there found named k d inside =
      let want : Want = get_or (wants_outside op actions) k d in
      let asks : Want → Bool = λ w. eqb w.id.off want.id.off && (w.write || not false) in
      subst (λ (o : Option Object). IsSome o)
      (sym (same found want.id.off (list_any_at asks (wants_outside op actions) k d inside (and_from (eqb want.id.off want.id.off) (want.write || true) (eq-eqb want.id.off want.id.off refl) (or_right want.write true refl)))))
      (named k d inside)

  alike_match : (fr fr' : Option Refusal) → fr' ≡ fr → MatchOption fr (IsDoneOutside here op reply) (λ r. IsRefusedOutside r reply) → MatchOption fr' (IsDoneOutside there op reply) (λ r. IsRefusedOutside r reply)
  alike_match None fr' e done =
      subst (λ (o : Option Refusal). MatchOption o (IsDoneOutside there op reply) (λ r. IsRefusedOutside r reply)) (sym e) (record { there = named_there (unmissed here op reply done.value) done.there; stands = stands_plain (as_resting there) op plain; value = value_there done.value })
  alike_match (Some r) fr' e is = subst (λ (o : Option Refusal). MatchOption o (IsDoneOutside there op reply) (λ r. IsRefusedOutside r reply)) (sym e) is

  -- the call answers alike
  pub answers_there : AnswersOutside here op reply → AnswersOutside there op reply
  answers_there a = record { known = a.known; seen = a.seen; answer = alike_match (refusal_outside a.seen here op) (refusal_outside a.seen there op) (same_refusal_outside a.seen a.answer) a.answer }

  done_alike : (o : Operation) (x : ℕ) → object_at objects x ≡ object_at pool.objects x → object_at (done_outside o there).pool.objects x ≡ object_at (done_outside o here).pool.objects x
  done_alike Publish x e =
      ap (λ (p : PoolView). object_at p.objects x) (done_plain there plain) ∙ (all_alike actions.sets objects pool.objects x e ∙ sym (ap (λ (p : PoolView). object_at p.objects x) (done_plain here plain)))
  done_alike (SetValue id off value) x e = e
  done_alike Cancel x e = e
  done_alike o x e = e

  -- and leaves an object that is the same alike
  pub left_alike : (r : Option Value) (x : ℕ) → object_at objects x ≡ object_at pool.objects x → object_at (after_outside op r there).pool.objects x ≡ object_at (after_outside op r here).pool.objects x
  left_alike (Some (Refused r)) x e = e
  left_alike (Some (Offset off)) x e = by op where
    by : (o : Operation) → object_at (after_outside o (Some (Offset off)) there).pool.objects x ≡ object_at (after_outside o (Some (Offset off)) here).pool.objects x
    by (Reserve size kind) = e
    by o = done_alike o x e
  left_alike (Some value) x e = done_alike op x e
  left_alike None x e = done_alike op x e

  done_actions : (o : Operation) → (done_outside o there).actions ≡ (done_outside o here).actions
  done_actions Publish = refl
  done_actions (SetValue id off value) = refl
  done_actions Cancel = refl
  done_actions o = refl

  pub left_actions : (r : Option Value) → (after_outside op r there).actions ≡ (after_outside op r here).actions
  left_actions (Some (Refused r)) = refl
  left_actions (Some (Offset off)) = by op where
    by : (o : Operation) → (after_outside o (Some (Offset off)) there).actions ≡ (after_outside o (Some (Offset off)) here).actions
    by (Reserve size kind) = refl
    by o = done_actions o
  left_actions (Some value) = done_actions op
  left_actions None = done_actions op
