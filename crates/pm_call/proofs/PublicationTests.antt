-- WHICH TEST OF A PUBLISH APPLIES outside a transaction, where words alone are pending and the lane
-- knows the size of each one's object.
use Rattle.std.proofs.Common.{◌≡◌, ℕ, zero, suc, ◌+◌, ◌<◌, ◌≤◌, Bool, true, false, ◌||◌, All, Contains, List, [], ◌∷◌, refl, sym, ap, ◌∙◌, subst, arith}
use Rattle.std.specs.List.{AllByRecursion, list_any}
use Rattle.std.proofs.lemmas.Bool.{false_from_ne_true, lt-ltb, ltb-true, or_left, or_right}
use Rattle.std.proofs.lemmas.List.Elements.{All-from_recursion, All-nil}
use Rattle.pm_model.specs.Pending.{SetWord, passes_object, wants_pending}
use Rattle.pm_model.specs.Items.{is_among, is_root, size_of}
use Rattle.pm_model.specs.Refusals.{is_listed}
use Rattle.pm_objects.specs.declared.calls.Want.{Want}
use Rattle.pm_objects.specs.declared.ids.Oid.{Oid}
use Rattle.pm_objects.specs.declared.refusal.Refusal.TheVariants as refusal
use Rattle.pm_view.specs.View.{View}
use Rattle.pm_crash.specs.Calls.{pending_of}
use Rattle.pm_crash.specs.Freshness.{root_told}
use Rattle.pm_crash.specs.Looked.{KnowsSize, items_seen, size_seen}
use Rattle.pm_crash.specs.SimOps.{Finds}
use Rattle.pm_crash.specs.SimPublish.{IsLateRefusal, LooksToPublish}
use Rattle.pm_crash.specs.SimRoots.{SawRoot}
use Rattle.pm_crash.proofs.Looked.{seen_size}
use Rattle.pm_lock.specs.Wants.{has_unplaced}
use Rattle.pm_call.specs.Did.{unseen}
use Rattle.pm_call.specs.Publications.{PassesTests}
use Rattle.pm_call.proofs.LockRefusals.{first_here, first_skip}
use Rattle.pm_call.proofs.LockedObjects.{no_first}
use Rattle.pm_call.proofs.Noting.{all_map}

-- the size of its object is known, and the word is within it
pub record IsSizedWord (v : View) (a : SetWord) : Type 0 where
  pub knows : KnowsSize v [] a.id.off
  pub inside : a.off + 8 ≤ knows.size

-- where one of a list passes a test, some does
pub any_of : {A : Type 0} (f : A → Bool) (xs : List A) (a : A) → Contains xs a → f a ≡ true
    → list_any f xs ≡ true
any_of f [] a (k, low, e) holds = absurd (omega (arith, low))
any_of f (b ∷ xs) a (zero, low, e) holds = or_left (f b) (list_any f xs) (ap f e ∙ holds)
any_of f (b ∷ xs) a (suc k, low, e) holds =
    or_right (f b) (list_any f xs) (any_of f xs a (k, omega (arith, low), e) holds)

never : {A : Type 0} (f : A → Bool) → ((x : A) → f x ≡ false) → (xs : List A)
    → list_any f xs ≡ false
never f none [] = refl
never f none (x ∷ xs) = λ i. none x i || never f none xs i

module _ (v : View) (frees : (pending_of v.entries).frees ≡ [])
    (late : (pending_of v.entries).late ≡ false)
    (placed : has_unplaced v.fixed.shape v.fixed.pool (wants_pending (pending_of v.entries)) ≡ false)
  where
    abbrev sets : List SetWord
    sets = (pending_of v.entries).sets

    size_is : (off : ℕ) (k : KnowsSize v [] off) → size_of (items_seen v) off ≡ k.size
    size_is off k = seen_size (size_seen v off) k.size k.seen

    looks : AllByRecursion (λ (a : SetWord). KnowsSize v [] a.id.off) sets → LooksToPublish v 0
    looks sized = record {
      frees = subst (All (λ (id : Oid). Finds v [] id.off)) (sym frees) (All-nil _);
      roots = subst (All (λ (id : Oid). SawRoot v 0 id.off)) (sym frees) (All-nil _);
      sets = All-from_recursion (λ (a : SetWord). KnowsSize v [] a.id.off) sets sized;
    }

    none_missing : list_any (λ (want : Want). is_among [] want.id.off)
        (wants_pending (pending_of v.entries)) ≡ false
    none_missing = never (λ (want : Want). is_among [] want.id.off) (λ want. refl)
        (wants_pending (pending_of v.entries))

    not_past : (a : SetWord) → IsSizedWord v a → passes_object (items_seen v) a ≡ false
    not_past a k = false_from_ne_true (passes_object (items_seen v) a) (λ e.
        let low = ltb-true (size_of (items_seen v) a.id.off) (a.off + 8) e in
        let is = size_is a.id.off k.knows in
        let inside = k.inside in
        omega (arith, low, is, inside))

    none_past : (ws : List SetWord) → AllByRecursion (IsSizedWord v) ws
        → list_any (passes_object (items_seen v)) ws ≡ false
    none_past [] all = refl
    none_past (a ∷ ws) all = λ i. not_past a all.0 i || none_past ws all.1 i

    -- THEY ALL PASS where each word is within its object
    pub tests_pass : AllByRecursion (IsSizedWord v) (pending_of v.entries).sets → PassesTests v
    tests_pass all = record {
      value = 0;
      looks = looks (all_map (IsSizedWord v) (λ (a : SetWord). KnowsSize v [] a.id.off) sets
          (λ a k. k.knows) all);
      none = no_first _ (
        refl,
        (
          placed,
          (
            none_missing,
            (
              late,
              (
                ap (list_any (λ (id : Oid). is_root (root_told 0) id.off)) frees,
                (ap (list_any (λ (id : Oid). is_listed (items_seen v) id.off)) frees, (none_past sets all, tt)),
              ),
            ),
          ),
        ),
      );
    }

    -- THE LAST APPLIES where one is not
    pub last_test : AllByRecursion (λ (a : SetWord). KnowsSize v [] a.id.off)
        (pending_of v.entries).sets → (a : SetWord) → Contains (pending_of v.entries).sets a
        → (k : KnowsSize v [] a.id.off) → k.size < a.off + 8
        → IsLateRefusal v unseen refusal.OutOfRange
    last_test sized a among k past = record {
      value = 0;
      looks = looks sized;
      first = first_skip _ _ refl ∙ (first_skip _ _ placed ∙ (first_skip _ _ none_missing
          ∙ (first_skip _ _ late ∙ (first_skip _ _ (ap (list_any
          (λ (id : Oid). is_root (root_told 0) id.off)) frees)
          ∙ (first_skip _ _ (ap (list_any (λ (id : Oid). is_listed (items_seen v) id.off)) frees)
          ∙ first_here _ _ (any_of (passes_object (items_seen v)) sets a among
          (lt-ltb (size_of (items_seen v) a.id.off) (a.off + 8)
          (let is = size_is a.id.off k in omega (arith, is, past)))))))));
    }
