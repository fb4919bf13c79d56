-- A READ: it is told with the bytes that the lane knows.
use Rattle.std.proofs.Common.{◌≡◌, ℕ, ◌+◌, inl, inr, Bool, true, false, List, [], ◌∷◌, ◌++◌, not, nat_lt, ◌==◌, refl, sym, ap, ◌∙◌, subst, arith, eq-eqb, None, Some}
use Rattle.std.specs.Option.{option_map_or}
use Rattle.std.proofs.lemmas.Bool.{and_from, false_from_ne_true, ltb-true}
use Rattle.pm_objects.specs.declared.calls.Operation.TheVariants.{Read}
use Rattle.pm_objects.specs.declared.history.Value.TheVariants.{Bytes}
use Rattle.pm_objects.specs.declared.ids.Oid.{Oid}
use Rattle.pm_model.specs.Inside.{Ran}
use Rattle.pm_model.specs.Refusals.{first_of}
use Rattle.pm_view.specs.View.{View, Told}
use Rattle.pm_view.specs.Views.{after_all}
use Rattle.pm_world.specs.LaneFields.{Standing, moved}
use Rattle.pm_crash.specs.Calls.{pending_of}
use Rattle.pm_crash.specs.Looked.{bytes_seen}
use Rattle.pm_crash.specs.OpenRuns.{no_pool}
use Rattle.pm_crash.specs.Sim.{Sim, lists_of}
use Rattle.pm_crash.specs.SimFacts.{is_begun}
use Rattle.pm_crash.proofs.OpenRuns.{told_once_more}
use Rattle.pm_crash.proofs.SimOps.{sim_extends}
use Rattle.pm_crash.proofs.Telling.{tells_grow}
use Rattle.pm_model.specs.Transaction.{idle}
use Rattle.pm_plan.specs.Plans.{Ready, known_word, one}
use Rattle.pm_call.specs.At.{At, AreLists, IsAt, MaySet, entries_so_far}
use Rattle.pm_call.specs.Did.{IsUnrefused, unseen}
use Rattle.pm_call.specs.Ranges.{HasRange, KnowsWords, is_held_so, size_or_none}
use Rattle.pm_call.specs.Reading.{LeadsRead, RangesMayBeRead}
use Rattle.pm_call.specs.Waiting.{pending_now}
use Rattle.pm_call.proofs.Noting.{Keeps, all_map, data_told, told_at}
use Rattle.pm_call.proofs.RangeRefusals.{range_refusals, ranges_are_looked_at}
use Rattle.pm_call.proofs.RangeWords.{knows_range}
use Rattle.pm_call.proofs.Staying.{now_told, pending_told}

pub begun_more : (told : List Told) (t : Told) → is_begun told ≡ true → is_begun (told ++ t ∷ []) ≡ true
begun_more [] t e = absurd (Rattle.std.proofs.lemmas.Bool.both_ways false refl e)
begun_more (x ∷ told) t e = e

-- A LANE THAT ONLY TELLS keeps all else
pub keeps_same : (s : Standing) (level : ℕ) → IsAt s level → Keeps s [] s.view.changes s.view.calls s.view.log
keeps_same s level at = record {
  each = tt;
  working = at.working;
  unbumped = at.unbumped;
  fit = at.sizes;
  seal = at.sealed;
  sizes = λ a m. refl;
  recorded = at.recorded;
  more = λ p e. e;
  knows = λ p b y _ e. e;
  same = λ p b. inl refl;
}

-- an operation that leaves the model's lists leaves the lane's
pub lists_told : (s : Standing) (level : ℕ) (call actions published : List Told) → IsAt s level
    → lists_of (record s.view { call = call; actions = actions; published = published }) ≡ lists_of s.view
    → pending_now (record s.view { call = call; actions = actions; published = published }) ≡ pending_now s.view
    → AreLists (moved s (record s.view { call = call; actions = actions; published = published })) level (lists_of (record s.view { call = call; actions = actions; published = published }))
lists_told s level call actions published at same now = subst (AreLists (moved s (record s.view { call = call; actions = actions; published = published })) level) (sym same) (record {
  level_is = at.lists.level_is;
  works = at.lists.works;
  locks = at.lists.locks;
  count = at.lists.count;
  recorded = at.lists.recorded;
  records = at.lists.records;
  blocks = at.lists.blocks;
  pending = at.lists.pending ∙ sym now;
  sets = at.lists.sets;
  may_set = all_map (MaySet s) (MaySet (moved s (record s.view { call = call; actions = actions; published = published }))) (lists_of s.view).sets
      (λ a m. record { locked = m.locked; aligned = m.aligned; size = m.size; sized = m.sized; inside = m.inside; small = m.small }) at.lists.may_set;
  error_is = at.lists.error_is;
})

-- a range that is had passes its first tests
pub range_passes : (s : Standing) (id : Oid) (off len : ℕ) (write : Bool) → HasRange s id off len write → (not (is_held_so s id write) ≡ false) × (nat_lt (size_or_none s.view id.off) (off + len) ≡ false)
range_passes s id off len write r = (
  ap not (and_from (id.pool == s.view.fixed.pool) (Rattle.pm_call.specs.Held.is_in_locks s.locks id.off write) (eq-eqb id.pool s.view.fixed.pool r.pool) r.locked),
  ap (λ o. nat_lt (option_map_or (λ n. n) o 0) (off + len)) r.sized ∙ false_from_ne_true (nat_lt r.size (off + len)) (λ t. let l = ltb-true r.size (off + len) t in let i = r.inside in omega (arith, l, i)),
)

module _ (s : Standing) (id : Oid) (off len : ℕ) (at : At s) (r : HasRange s id off len false) (known : KnowsWords s.view (id.off + off) len) where
  abbrev v : View
  v = s.view

  abbrev bytes : List ℕ
  bytes = bytes_seen (known_word s.view) id.off off len

  abbrev told : Told
  told = record { operation = Read id off len; reply = Some (Bytes (bytes_seen (known_word s.view) id.off off len)) }

  abbrev u : View
  u = record s.view { call = s.view.call ++ told ∷ []; actions = s.view.actions; published = s.view.published }

  unrefused : IsUnrefused s (Read id off len)
  unfolding first_of
  unrefused = let t = range_passes s id off len false r in record {
    looks = ranges_are_looked_at s (Read id off len) id off len false at (refl, refl, refl, refl) (inl (record { size = r.size; sized = r.sized; small = r.small }));
    none = range_refusals s (Read id off len) id off len false at (refl, refl, refl, refl)
        ∙ (λ i. first_of ((Rattle.pm_objects.specs.declared.refusal.Refusal.TheVariants.NotLocked, t.0 i) ∷ (Rattle.pm_objects.specs.declared.refusal.Refusal.TheVariants.OutOfRange, t.1 i) ∷ []));
  }

  lists_same : lists_of (record s.view { call = s.view.call ++ told ∷ []; actions = s.view.actions; published = s.view.published }) ≡ lists_of s.view
  lists_same = told_once_more v.call told (idle no_pool (pending_of v.entries))

  ran : Ran
  ran = record { operation = Read id off len; seen = unseen; reply = Some (Bytes bytes) }

  sim : Sim (record s.view { call = s.view.call ++ told ∷ []; actions = s.view.actions; published = s.view.published }) (entries_so_far s)
  sim = sim_extends v u [] [] None (record { operation = Read id off len; seen = unseen; reply = Some (Bytes bytes) }) at.sim
      (record { keeps = record { fixed = refl; entries = refl }; call = refl })
      (inr at.lists.works)
      (λ kept. tells_grow v (Read id off len) (Some (Bytes bytes)) kept)
      (record {
        leaves = refl;
        looks = unrefused.looks;
        unrefused = unrefused.none;
        replies = (known_word v, knows_range s at id off len false r known, refl);
        enters = Rattle.pm_crash.proofs.SimFacts.no_entries u (λ p e. let d = data_told v u.call u.actions u.published at.sound p (at.recorded p e) in (d.object.block, d.index, d.at, d.within, inr (d.found, d.object.object.inside, d.data_)));
        there = λ i d low. absurd (omega (arith, low));
        same = λ p b. inl refl;
      })

  stands : At (moved s (record s.view { call = s.view.call ++ told ∷ []; actions = s.view.actions; published = s.view.published }))
  stands = told_at s s.level at [] v.changes v.calls v.log (keeps_same s s.level at) u.call u.actions u.published s.level at.some at.most (begun_more v.call told at.begun) (lists_told s s.level u.call u.actions u.published at lists_same (now_told v (Read id off len) (Some (Bytes bytes)) (λ p. refl)))
      (pending_told v (Read id off len) (Some (Bytes bytes)) (λ p. refl) refl at.pending) sim

  pub leads_read : LeadsRead s id off len
  unfolding Ready one after_all
  leads_read = record { unrefused = unrefused; ready = (at.working.is_open, tt, tt); stands = stands }

pub ranges_may_be_read : RangesMayBeRead
ranges_may_be_read s id off len at r known = leads_read s id off len at r known
