-- A lane alone that looks at the root's word learns nothing new of the pool.
use Rattle.std.proofs.Common.{◌≡◌, ℕ, true, false, eqb, set, List, length, get_or, slice_index, refl, sym, ap, ◌∙◌, arith}
use Rattle.std.specs.List.{Any, list_any}
use Rattle.std.proofs.lemmas.Bool.{eq-eqb, eqb-true, false≢true}
use Rattle.std.proofs.lemmas.List.{set-get_or}
use Rattle.std.proofs.lemmas.List.Folds.{Any-from_list_any, list_any_at}
use Rattle.solo_crash.specs.CallBlocks.{FreeNoRoot}
use Rattle.solo_crash.specs.Reserved.{root_in}
use Rattle.pm_objects.specs.declared.ids.Oid.{Oid}
use Rattle.solo_undo.proofs.Learned.{learns_at_work}
use Rattle.solo_undo.specs.Working.{HasLearned, IsWorking}
use Rattle.solo_view.specs.Founds.{FindsKnown, IsAlone}
use Rattle.solo_view.specs.Steps.Step.{Load}
use Rattle.solo_view.specs.View.{View}
use Rattle.solo_view.specs.Views.{after}
use Rattle.solo_lock.proofs.Leads.{led_once}
use Rattle.solo_transaction.proofs.AtWork.{root_is_plain}
use Rattle.solo_transaction.proofs.Frees.{root_elsewhere}
use Rattle.solo_action.specs.Holding.{HasLookedAgain, LooksAgain}
use Rattle.solo_action.proofs.LookedAgain.{looks_at_none}

module _ (v : View) (work : IsWorking v) (alone : IsAlone v) (x : ℕ) (finds : FindsKnown v 64 x) (found : IsAlone v → x ≡ slice_index v.words 64) where
  abbrev w : View
  w = after v (Load 64 x)

  learned : HasLearned v 64 w
  learned = learns_at_work v 64 x (root_is_plain v) finds work

  words_same : set v.words 64 x ≡ v.words
  words_same = ap (set v.words 64) (found alone) ∙ set-get_or v.words 64 0

  pub looks_at_root : LooksAgain v w
  looks_at_root = record {
    led = led_once v (Load 64 x) (let inside = work.area.inside in omega (arith, inside)) found tt refl (record { zone_locks = refl; reserved = refl; freed = refl });
    same = (λ i. record v { words = words_same i; known = w.known; locks = learned.call.locks i; seen = w.seen });
    remembers = learned.call.remembers;
    saw = learned.call.seen;
  }

  root_there : slice_index w.words 64 ≡ x
  root_there = ap (λ (ws : List ℕ). slice_index ws 64) words_same ∙ sym (found alone)

  module _ (new : View → Type 0) (there : new w) (ids : List Oid) where
    -- it is one of these
    pub root_among : list_any (λ (id : Oid). eqb id.off x) ids ≡ true → HasLookedAgain new v (λ u. Any (λ (id : Oid). slice_index u.words 64 ≡ id.off) ids)
    root_among some =
        let t = Any-from_list_any (λ (id : Oid). eqb id.off x) ids some in
        record { view = w; looks = looks_at_root; there = there; holds = (t.0, t.1, t.2, t.3, root_there ∙ sym (eqb-true t.1.off x t.4)) }

    -- or it is none
    pub root_other : list_any (λ (id : Oid). eqb id.off x) ids ≡ false → HasLookedAgain new v (λ u. FreeNoRoot (root_in (slice_index u.words)) ids)
    root_other none = record {
      view = w;
      looks = looks_at_root;
      there = there;
      holds = λ k d low. root_elsewhere (slice_index w.words) (get_or ids k d).off
          (λ same. false≢true (sym none ∙ list_any_at (λ (id : Oid). eqb id.off x) ids k d low
          (eq-eqb (get_or ids k d).off x (sym same ∙ root_there))));
    }

-- where nothing is to be freed no root is
pub frees_none : (at : View → Type 0) (v : View) → at v → (ids : List Oid) → length ids ≡ 0 → HasLookedAgain at v (λ u. FreeNoRoot (root_in (slice_index u.words)) ids)
frees_none at v there ids none = record { view = v; looks = looks_at_none v; there = there; holds = λ k d low. absurd (omega (arith, low, none)) }
