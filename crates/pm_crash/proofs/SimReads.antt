-- A read of an object's header outside a transaction has its fact.
use Rattle.std.proofs.Common.{◌≡◌, ◌⊎◌, inl, inr, ⊎_elim, ℕ, true, [], ◌∷◌, Option, Some, None, IsSome, refl, sym, ap, ◌∙◌, subst, arith}
use Rattle.std.specs.Prelude.{MatchOption}
use Rattle.std.specs.Option.{option_map_or}
use Rattle.std.proofs.lemmas.List.Elements.{All-cons, All-nil}
use Rattle.pm_header.specs.declared.header.Header.{Header}
use Rattle.pm_layout.specs.Sizes.{usable}
use Rattle.pm_objects.specs.declared.calls.Operation.{Operation}
use Rattle.pm_objects.specs.declared.calls.Operation.TheVariants.{UsableSize, TypeNumber}
use Rattle.pm_objects.specs.declared.calls.Want.{Want}
use Rattle.pm_objects.specs.declared.history.Value.{Value}
use Rattle.pm_objects.specs.declared.history.Value.TheVariants.{Number}
use Rattle.pm_objects.specs.declared.ids.Oid.{Oid}
use Rattle.pm_objects.specs.declared.pool.PoolView.{PoolView}
use Rattle.pm_objects.specs.declared.refusal.Refusal.{Refusal}
use Rattle.pm_objects.specs.declared.refusal.Refusal.TheVariants as refusal
use Rattle.pm_model.specs.Inside.{IsRefused, Ran}
use Rattle.pm_model.specs.Items.{Item, Items, kind_of, plain_pool}
use Rattle.pm_model.specs.Outside.{IsDoneOutside, Outside, after_reply_outside, found_tests, is_outside, refusal_outside, want_to_read}
use Rattle.pm_model.specs.Refusals.{Seen, first_of}
use Rattle.pm_view.specs.View.{View}
use Rattle.pm_world.specs.States.{State}
use Rattle.pm_crash.specs.Looked.{KnowsSize, KnowsWord}
use Rattle.pm_crash.specs.Sim.{Agrees, StandIn, bits_now}
use Rattle.pm_crash.specs.SimOutside.{LeavesPool, outside_before}
use Rattle.pm_crash.specs.SimReads.{IsLoneRead, IsRefusedRead, IsSizeRead, IsTypeRead, LoneReadsAreFacts, read_refusal}
use Rattle.pm_crash.specs.Spelled.{Holds}
use Rattle.pm_crash.proofs.KnownWords.{header_known}
use Rattle.pm_crash.proofs.Looked.{item_so, size_so, words_so}
use Rattle.pm_crash.proofs.SceneSteps.{scenes_begin}
use Rattle.pm_crash.proofs.SimOutside.{bare_outsides_are_facts, left_same}
use Rattle.pm_crash.proofs.SimPublish.{enters_none}
use Rattle.pm_crash.proofs.Simulation.{nothing_yet}

-- the two reads
abbrev IsRead : Operation → Oid → Type 0
IsRead op id = (op ≡ UsableSize id) ⊎ (op ≡ TypeNumber id)

read_same : (op : Operation) (id : Oid) (reply : Option Value) (s : Outside) → IsRead op id → (after_reply_outside op reply s).pool ≡ s.pool
read_same op id reply s is = ⊎_elim
    (λ (e : op ≡ UsableSize id). subst (λ q. (after_reply_outside q reply s).pool ≡ s.pool) (sym e) (left_same (UsableSize id) s (λ off. refl) (λ off. refl) reply))
    (λ (e : op ≡ TypeNumber id). subst (λ q. (after_reply_outside q reply s).pool ≡ s.pool) (sym e) (left_same (TypeNumber id) s (λ off. refl) (λ off. refl) reply))
    is

module _ (v : View) (none : v.log.records ≡ []) (classes : ℕ → ℕ) (s : State) (header : Header) (pool : PoolView)
    (agrees : Agrees classes v true s) (holds : Holds v.fixed.shape classes s header pool) (named : header.id ≡ v.fixed.pool) where
  abbrev items : Items
  items = (plain_pool pool).items

  begun : StandIn v.fixed.shape classes (bits_now v [] s) items
  begun = subst (λ (t : State). StandIn v.fixed.shape classes t items) (λ i q b. ap (λ o. Rattle.pm_world.specs.States.over o (s q b)) (sym (nothing_yet v none q b)) i)
      (scenes_begin v.fixed.shape classes s header pool holds)

  abbrev s0 : Outside
  s0 = outside_before v (plain_pool pool)

  -- the first refusal looks at the pool's id and shape
  tested : (seen : Seen) (id : Oid) → first_of ((refusal.Spent, seen.spent) ∷ found_tests seen (plain_pool pool) (want_to_read id ∷ [])) ≡ read_refusal seen v id
  tested seen id =
      let same : pool.id ≡ v.fixed.pool = ap (λ (q : PoolView). q.id) holds.is_pool ∙ named in
      let lanes = ap (λ (q : PoolView). q.lanes) holds.is_pool in
      let zones = ap (λ (q : PoolView). q.zones) holds.is_pool in
      λ i. first_of ((refusal.Spent, seen.spent) ∷ found_tests seen (record (plain_pool pool) { id = same i; lanes = lanes i; zones = zones i }) (want_to_read id ∷ []))

  refusal_is : (seen : Seen) (op : Operation) (id : Oid) → IsRead op id → refusal_outside seen (outside_before v (plain_pool pool)) op ≡ read_refusal seen v id
  refusal_is seen op id is = ⊎_elim
      (λ (e : op ≡ UsableSize id). ap (λ q. refusal_outside seen (outside_before v (plain_pool pool)) q) e ∙ tested seen id)
      (λ (e : op ≡ TypeNumber id). ap (λ q. refusal_outside seen (outside_before v (plain_pool pool)) q) e ∙ tested seen id)
      is

  there : (id : Oid) → KnowsSize v [] id.off → IsSome (items id.off)
  there id k = ap Rattle.std.specs.Prelude.is_some (item_so v [] true classes s header pool holds agrees (enters_none v none) items begun k.block id.off k.object k.at)

  kind_is : (id : Oid) (k : KnowsSize v [] id.off) (n : ℕ) → KnowsWord v [] k.block 0 n → kind_of items id.off ≡ n
  kind_is id k n w =
      let en = enters_none v none in
      ap (λ (o : Option Item). option_map_or (λ (i : Item). i.kind) o 0) (item_so v [] true classes s header pool holds agrees en items begun k.block id.off k.object k.at)
      ∙ header_known v [] true classes s header pool holds agrees en k.block 0 n k.object (omega arith)
      (let m = (words_so v [] true classes s header pool holds agrees en items begun k.block k.object).1 in omega arith) w

  asked : (id : Oid) → KnowsSize v [] id.off → Rattle.std.specs.List.All (λ (w : Want). IsSome (items w.id.off)) (want_to_read id ∷ [])
  asked id k = All-cons (λ (w : Want). IsSome (items w.id.off)) (want_to_read id) [] (there id k) (All-nil (λ (w : Want). IsSome (items w.id.off)))

  size_done : (ran : Ran) (id : Oid) → IsSizeRead v ran id → IsDoneOutside (outside_before v (plain_pool pool)) ran.operation ran.seen ran.reply
  size_done ran id y = subst (λ op. IsDoneOutside (outside_before v (plain_pool pool)) op ran.seen ran.reply) (sym y.reads) (record {
    there = asked id y.object;
    publishes = tt;
    value = y.replied ∙ ap (λ n. Some (Number (usable n))) (sym (size_so v [] true classes s header pool holds agrees (enters_none v none) items begun id.off y.object));
  })

  type_done : (ran : Ran) (id : Oid) → IsTypeRead v ran id → IsDoneOutside (outside_before v (plain_pool pool)) ran.operation ran.seen ran.reply
  type_done ran id y = subst (λ op. IsDoneOutside (outside_before v (plain_pool pool)) op ran.seen ran.reply) (sym y.reads) (record {
    there = asked id y.object;
    publishes = tt;
    value = y.replied ∙ ap (λ n. Some (Number n)) (sym (kind_is id y.object y.kind y.knows));
  })

  read_leaves : (ran : Ran) (id : Oid) (r : Option Refusal) → IsRead ran.operation id → read_refusal ran.seen v id ≡ r
      → MatchOption r (IsDoneOutside (outside_before v (plain_pool pool)) ran.operation ran.seen ran.reply) (λ r. IsRefused r ran.reply) → LeavesPool v ran (plain_pool pool)
  read_leaves ran id r is first reply = record {
    replies = record {
      outside = ⊎_elim (λ (e : ran.operation ≡ UsableSize id). ap is_outside e) (λ (e : ran.operation ≡ TypeNumber id). ap is_outside e) is;
      reply = subst (λ o. MatchOption o (IsDoneOutside (outside_before v (plain_pool pool)) ran.operation ran.seen ran.reply) (λ r. IsRefused r ran.reply))
          (sym (refusal_is ran.seen ran.operation id is ∙ first)) reply;
    };
    same = read_same ran.operation id ran.reply (outside_before v (plain_pool pool)) is;
  }

pub lone_reads_are_facts : LoneReadsAreFacts
lone_reads_are_facts v ran y = ⊎_elim
    (λ (y : IsLoneRead v ran). bare_outsides_are_facts v ran y.lone y.bare (λ classes s header pool agrees holds named. ⊎_elim
    (λ (d : IsSizeRead v ran y.id). read_leaves v y.bare.records classes s header pool agrees holds named ran y.id None (inl d.reads) y.unrefused (size_done v y.bare.records classes s header pool agrees holds named ran y.id d))
    (λ (d : IsTypeRead v ran y.id). read_leaves v y.bare.records classes s header pool agrees holds named ran y.id None (inr d.reads) y.unrefused (type_done v y.bare.records classes s header pool agrees holds named ran y.id d))
    y.done))
    (λ (y : IsRefusedRead v ran). bare_outsides_are_facts v ran y.lone y.bare (λ classes s header pool agrees holds named.
    read_leaves v y.bare.records classes s header pool agrees holds named ran y.id (Some y.refusal) y.reads y.first y.refused))
    y
