-- A PUBLISH OUTSIDE A TRANSACTION THAT IS REFUSED is told so, and its call is over then.
use Rattle.std.proofs.Common.{◌≡◌, ◌≢◌, inl, inr, ⊎_elim, ℕ, true, false, List, [], ◌∷◌, ◌++◌, refl, ap, ◌∙◌, Option, None, Some}
use Rattle.std.proofs.lemmas.Bool.{both_ways}
use Rattle.std.proofs.lemmas.List.Elements.{All-weaker}
use Rattle.pm_model.specs.Inside.{is_untraced}
use Rattle.pm_model.specs.Pending.{SetWord, wants_pending}
use Rattle.pm_model.specs.Outside.{found_tests, tests_outside}
use Rattle.pm_model.specs.Refusals.{Seen}
use Rattle.pm_objects.specs.declared.calls.Operation.TheVariants.{Publish}
use Rattle.pm_objects.specs.declared.history.Value.{Value}
use Rattle.pm_objects.specs.declared.history.Value.TheVariants.{Refused}
use Rattle.pm_objects.specs.declared.ids.Oid.{Oid}
use Rattle.pm_objects.specs.declared.refusal.Refusal.{Refusal}
use Rattle.pm_objects.specs.declared.refusal.Refusal.TheVariants.{Busy, NoObject, Spent}
use Rattle.pm_view.specs.Places.{Block, Small, Big, Root}
use Rattle.pm_view.specs.Steps.Step.{Tell}
use Rattle.pm_view.specs.View.{Told, View}
use Rattle.pm_view.specs.Views.{after}
use Rattle.pm_crash.specs.Calls.{Fact}
use Rattle.pm_crash.specs.Facts.{MissWasSeen}
use Rattle.pm_crash.specs.Freshness.{root_told}
use Rattle.pm_crash.specs.Looked.{IsObject, KnowsSize, KnowsWord, items_seen, pool_seen}
use Rattle.pm_crash.specs.Sim.{known_offset}
use Rattle.pm_crash.specs.SimOps.{Finds}
use Rattle.pm_crash.specs.SimOutside.{outside_before}
use Rattle.pm_crash.specs.SimPublish.{IsLateRefusal, LooksToPublish, early_refusal, pending_before}
use Rattle.pm_crash.proofs.EntryFacts.{records_miss}
use Rattle.pm_crash.proofs.SimPublish.{refused_publications_are_facts}
use Rattle.pm_call.specs.Outside.{IsPublishRefusal, RefusedPublicationsEnd, TriedLocksLeaveOpen}
use Rattle.pm_call.specs.Waiting.{HasPending}
use Rattle.pm_call.proofs.BusyTests.{busy_applies, told_refusal}
use Rattle.pm_call.proofs.Ending.{first_traced, refused_actions, refused_pending}
use Rattle.pm_call.proofs.LoneCalls.{ends_actions, ends_number, ends_over, steps_ready}
use Rattle.pm_call.proofs.MissedObjects.{publish_recorded}
use Rattle.pm_call.proofs.OpenedCalls.{opened_lanes_may_lock}
use Rattle.pm_call.proofs.Staying.{pending_told}
use Rattle.pm_call.proofs.TriedLocks.{leaves_open, view_on}

-- ---- THE LANE KNOWS THE SIZES still once the refusal is told
module _ (v : View) (r : Refusal) where
  abbrev told : View
  told = after v (Tell Publish (Some (Refused r)))

  object_told : (B : Block) → IsObject v [] B → IsObject told [] B
  object_told (Small c i) o = record { inside = o.inside; stands = o.stands; whole = o.whole }
  object_told (Big f) o = record { inside = o.inside; stands = o.stands; whole = o.whole }
  object_told Root o = absurd (both_ways false refl o.inside)

  word_told : (B : Block) (k x : ℕ) → KnowsWord v [] B k x → KnowsWord told [] B k x
  word_told (Small c i) k x w = record { small = w.small; bits = w.bits }
  word_told (Big f) k x w = record { small = w.small; bits = w.bits }
  word_told Root k x w = record { small = w.small; bits = w.bits }

  offset_told : (B : Block) → known_offset told B ≡ known_offset v B
  offset_told (Small c i) = refl
  offset_told (Big f) = refl
  offset_told Root = refl

  size_told : (off : ℕ) → KnowsSize v [] off → KnowsSize told [] off
  size_told off k = record { block = k.block; at = offset_told k.block ∙ k.at; object = object_told k.block k.object; size = k.size; knows = word_told k.block 1 k.size k.knows; seen = k.seen }

  finds_told : (off : ℕ) → Finds v [] off → Finds told [] off
  finds_told off f = record { block = f.block; at = offset_told f.block ∙ f.at; object = object_told f.block f.object }

  looks_told : (value : ℕ) → LooksToPublish v value → LooksToPublish told value
  looks_told value l = record {
    frees = All-weaker (λ (id : Oid). Finds v [] id.off) (λ (id : Oid). Finds told [] id.off) (λ id f. finds_told id.off f) (pending_before v).frees l.frees;
    roots = l.roots;
    sets = All-weaker (λ (a : SetWord). KnowsSize v [] a.id.off) (λ (a : SetWord). KnowsSize told [] a.id.off) (λ a k. size_told a.id.off k) (pending_before v).sets l.sets;
  }

  refusal_told : (seen : Seen) → IsPublishRefusal v seen r → IsPublishRefusal told seen r
  refusal_told seen is = ⊎_elim (λ (e : early_refusal seen v ≡ Some r). inl e) (λ (l : IsLateRefusal v seen r). inr (record { value = l.value; looks = looks_told l.value l.looks; first = l.first })) is

-- ---- it leaves a trace
module _ (v : View) (seen : Seen) (r : Refusal) (unspent : seen.spent ≡ false) where
  never : seen.spent ≡ true → is_untraced Spent ≡ false
  never e = absurd (both_ways seen.spent unspent e)

  traced : IsPublishRefusal v seen r → is_untraced r ≡ false
  traced is = ⊎_elim
      (λ (e : early_refusal seen v ≡ Some r). first_traced ((Spent, seen.spent) ∷ found_tests seen (pool_seen v None) (wants_pending (pending_before v))) r
      (never, (λ e. refl, (λ e. refl, tt))) e)
      (λ (l : IsLateRefusal v seen r). first_traced (tests_outside seen (outside_before v (record (pool_seen v (root_told l.value)) { items = items_seen v })) Publish) r
      (never, (λ e. refl, (λ e. refl, (λ e. refl, (λ e. refl, (λ e. refl, (λ e. refl, tt))))))) l.first)
      is

-- THE LAWS
pub refused_publications_end : RefusedPublicationsEnd
refused_publications_end s all seen r n o unspent is missing = record {
  ready = steps_ready s all o Publish reply fact unbusy missed pending n;
  over = ends_over s all o Publish reply fact unbusy missed pending n;
  number = ends_number s all o Publish reply fact unbusy missed pending n;
  pending = ends_actions s all o Publish reply fact unbusy missed pending n;
}
  where
    reply : Option Value
    reply = Some (Refused r)

    fact : Fact (after s.view (Tell Publish (Some (Refused r))))
    fact = refused_publications_are_facts (after s.view (Tell Publish (Some (Refused r)))) (record { operation = Publish; seen = seen; reply = Some (Refused r) }) (record {
      lone = ap (λ (call : List Told). call ++ record { operation = Publish; reply = Some (Refused r) } ∷ []) o.call;
      bare = record { records = o.records; entries = o.can.working.unentered };
      publishes = refl;
      refusal = r;
      refused = record { traced = traced s.view seen r unspent is; replied = refl };
      looked = refusal_told s.view r seen is;
    })

    unbusy : reply ≢ Some (Refused Busy)
    unbusy e =
        let same : r ≡ Busy = told_refusal r Busy e in
        ⊎_elim
        (λ (x : early_refusal seen s.view ≡ Some r). both_ways false refl
        (busy_applies ((Spent, seen.spent) ∷ found_tests seen (pool_seen s.view None) (wants_pending (pending_before s.view))) (x ∙ ap (λ z. Some z) same)))
        (λ (l : IsLateRefusal s.view seen r). both_ways false refl
        (busy_applies (tests_outside seen (outside_before s.view (record (pool_seen s.view (root_told l.value)) { items = items_seen s.view })) Publish) (l.first ∙ ap (λ z. Some z) same)))
        is

    missed : MissWasSeen (after s.view (Tell Publish (Some (Refused r))))
    missed = records_miss (after s.view (Tell Publish (Some (Refused r)))) s.view.call (record { operation = Publish; reply = reply }) refl
        (λ e. publish_recorded s.view r seen o.call missing (told_refusal r NoObject e) is)

    pending : HasPending (after s.view (Tell Publish (Some (Refused r))))
    pending = pending_told s.view Publish (Some (Refused r)) (λ p. refused_pending Publish r p) (refused_actions Publish r s.view.actions) o.can.pending

pub tried_locks_leave_open : TriedLocksLeaveOpen
tried_locks_leave_open s wants all x is tried =
    let same = view_on s wants all x tried in
    record {
      can = leaves_open s wants all x (opened_lanes_may_lock s is) tried;
      call = ap (λ (y : View). y.call) same ∙ is.call;
      records = ap (λ (y : View). y.log.records) same ∙ is.records;
      drained = ap (λ (y : View). y.changes) same ∙ is.drained;
    }
