-- What a committed call allocates the lane reserved, where each change allocates the block of an object in the run, or the chunks, that the lane reserved for it.
use Rattle.std.proofs.Common.{◌≡◌, inl, inr, ℕ, ◌+◌, ◌-◌, ◌*◌, ◌/◌, ◌%◌, true, List, [], ◌∷◌, ◌++◌, map, ap, ◌∙◌, subst, arith}
use Rattle.std.specs.List.{AllZip}
use Rattle.std.proofs.lemmas.List.{map-append}
use Rattle.pm_image.specs.Blocks.{chunk_word}
use Rattle.solo_model.specs.Actions.{Action}
use Rattle.solo_view.specs.declared.occ.Occ.{Occ}
use Rattle.solo_view.specs.declared.occ.Occ.TheVariants.{Run, Zone}
use Rattle.solo_view.specs.View.{View}
use Rattle.solo_view.specs.Views.{reserves}
use Rattle.solo_crash.specs.CallBlocks.{NewObject, blocks_in}
use Rattle.solo_crash.specs.HeapChanges.{HeapChange}
use Rattle.solo_crash.specs.HeapChanges.HeapChange.{AllocatesChunks, AllocatesInRun}
use Rattle.solo_crash.specs.Pending.{published_in}
use Rattle.solo_crash.specs.Publishing.{Published}
use Rattle.solo_crash.specs.Publishing.Published.{Changes, Performs}
use Rattle.solo_crash.specs.Taken.{AllocatesBit}
use Rattle.solo_epoch.specs.Epochs.{AllocatesIts, AllocatesOwn, FreesIts, HasEnteredCall, SomeAllocates}
use Rattle.solo_crash.specs.CallChanges.{bytes_published}

module _ (u : View) where
  -- each bit that a change allocates for an object of the call is of what the lane reserved
  each_own : (change : HeapChange) (n : NewObject) → AllocatesIts u change n → (at : Occ) (bit : ℕ) → AllocatesBit u.lanes change at bit → reserves u at bit ≡ true
  each_own change n (inl t) at bit is =
      let r = t.reserved in
      let of : AllocatesBit u.lanes (AllocatesInRun r.chunk r.lines r.index n.kind (bytes_published u n)) at bit = subst (λ (c : HeapChange). AllocatesBit u.lanes c at bit) t.is is in
      let word : 8 * chunk_word u.lanes r.chunk ≡ 4096 * (2 + 2 * u.lanes + 65 * (r.chunk / 64) + r.chunk % 64) = omega arith in
      (λ j. reserves u (of.0 j) (of.1 j)) ∙ (ap (λ place. reserves u (Run place) r.index) word ∙ r.reserved)
  each_own change n (inr t) at bit is =
      let r = t.reserved in let low = r.low in
      let of : AllocatesBit u.lanes (AllocatesChunks (64 * r.zone + r.first) r.count n.kind (bytes_published u n)) at bit = subst (λ (c : HeapChange). AllocatesBit u.lanes c at bit) t.is is in
      let from = of.1.0 in let to = of.1.1 in
      let zone : (64 * r.zone + r.first) / 64 ≡ r.zone = omega (arith, low) in
      let number : bit ≡ r.first + (bit - r.first) = omega (arith, low, from) in
      (λ j. reserves u (of.0 j) bit) ∙ ((λ j. reserves u (Zone (zone j)) (number j)) ∙ (r.unused (bit - r.first) (omega (arith, low, from, to))).reserved)

  made_own : (made : List HeapChange) (news : List NewObject) → AllZip (AllocatesIts u) made news → (at : Occ) (bit : ℕ) → SomeAllocates u.lanes (map Changes made) at bit → reserves u at bit ≡ true
  made_own [] news each at bit some = absurd some
  made_own (change ∷ made) [] each at bit some = absurd each
  made_own (change ∷ made) (n ∷ news) each at bit (inl here) = each_own change n each.0 at bit here
  made_own (change ∷ made) (n ∷ news) each at bit (inr later) = made_own made news each.1 at bit later

  -- what it frees allocates nothing, nor do its actions
  freed_none : (change : HeapChange) (off : ℕ) (at : Occ) (bit : ℕ) → FreesIts u change off → AllocatesBit u.lanes change at bit → ⊥
  freed_none change off at bit (inl t) is = subst (λ (c : HeapChange). AllocatesBit u.lanes c at bit) t.is is
  freed_none change off at bit (inr t) is = subst (λ (c : HeapChange). AllocatesBit u.lanes c at bit) t.is is

  pub freed_apart : (freed : List HeapChange) (offs : List ℕ) (steps : List Published) → AllZip (FreesIts u) freed offs → (at : Occ) (bit : ℕ)
      → SomeAllocates u.lanes (map Changes freed ++ steps) at bit → SomeAllocates u.lanes steps at bit
  freed_apart [] offs steps each at bit some = some
  freed_apart (change ∷ freed) [] steps each at bit some = absurd each
  freed_apart (change ∷ freed) (off ∷ offs) steps each at bit (inl here) = absurd (freed_none change off at bit each.0 here)
  freed_apart (change ∷ freed) (off ∷ offs) steps each at bit (inr later) = freed_apart freed offs steps each.1 at bit later

  pub actions_apart : (actions : List Action) (steps : List Published) (at : Occ) (bit : ℕ) → SomeAllocates u.lanes (map Performs actions ++ steps) at bit → SomeAllocates u.lanes steps at bit
  actions_apart [] steps at bit some = some
  actions_apart (a ∷ actions) steps at bit some = actions_apart actions steps at bit some

  -- what it publishes in its parts
  pub parts : (all : List Published) (e : HasEnteredCall u all) → all ≡ map Performs (published_in u) ++ (map Changes e.freed ++ map Changes e.made)
  parts all e = e.are ∙ ap (λ (steps : List Published). map Performs (published_in u) ++ steps) (map-append Changes e.freed e.made)

  pub allocates_own : (all : List Published) → HasEnteredCall u all → AllocatesOwn u all
  allocates_own all e at bit some =
      made_own e.made (blocks_in u).made e.allocates at bit (freed_apart e.freed (blocks_in u).freed (map Changes e.made) e.frees at bit
      (actions_apart (published_in u) (map Changes e.freed ++ map Changes e.made) at bit (subst (λ (steps : List Published). SomeAllocates u.lanes steps at bit) (parts all e) some)))
