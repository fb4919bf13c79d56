-- A lane that may make a run may make one behind any search, whatever that reserved.
use Rattle.std.proofs.Common.{◌≡◌, ◌≢◌, ⊎_elim, ℕ, ◌*◌, ◌/◌, ◌<◌, true, All, List, [], Result, Ok, Err, IsErrAnd, slice_index, sym, ap, ◌∙◌, subst, arith}
use Rattle.std.specs.Int.{bit_at}
use Rattle.std.proofs.lemmas.Bool.{false_from_ne_true, false≢true}
use Rattle.pm_image.specs.declared.block.Block.{Block}
use Rattle.pm_layout.specs.declared.shape.Shape.{Shape}
use Rattle.pm_objects.specs.declared.refusal.Refusal.{Refusal}
use Rattle.pm_objects.specs.declared.refusal.Refusal.TheVariants as refusal
use Rattle.solo_undo.specs.Working.{IsWorking}
use Rattle.solo_view.specs.declared.occ.Occ.TheVariants.{Zone}
use Rattle.solo_view.specs.Blocks.{descriptor_word, is_run}
use Rattle.solo_view.specs.View.{Taken, View}
use Rattle.solo_view.specs.Views.{chunk_bit, occ_in, reserves, zone_at}
use Rattle.solo_world.specs.Searches.{HasSearched}
use Rattle.solo_chunks.specs.Chunks.{IsLeast, ReserveEnds}
use Rattle.solo_fresh.specs.Making.{page_in, run_at}
use Rattle.solo_blocks.proofs.Searching.{IsLeft, is_searched, left_by_search, works_still}
use Rattle.solo_blocks.proofs.SetBits.{IsOfRun, all_of_runs, all_set, all_taken}
use Rattle.solo_blocks.proofs.Taking.{chunk_is, zone_is}
use Rattle.solo_blocks.specs.declared.making.NoBlock.{NoBlock}
use Rattle.solo_blocks.specs.declared.making.NoBlock.TheVariants as no_block
use Rattle.solo_blocks.specs.NewRuns.{IsThere, IsUnused, MayGoOn, MayMakeRun}

-- a chunk of a zone, by its page
pub chunk_as : (lanes z k : ℕ) → k < 64 → (x : View) → reserves x (Zone z) k ≡ reserves x (zone_at lanes (page_in lanes z k)) (chunk_bit lanes (page_in lanes z k))
chunk_as lanes z k small x =
    let number : k ≡ chunk_bit lanes (page_in lanes z k) = (let e = chunk_is lanes z k small in omega (arith, e)) in
    ap (λ n. reserves x (Zone n) k) (sym (zone_is lanes z k small)) ∙ ap (reserves x (zone_at lanes (page_in lanes z k))) number

module _ (v : View) (shape : Shape) (may : MayMakeRun v shape) (at : View → Type 0) (more : List Taken) (Q : View → Type 0) (searched : HasSearched at v more Q) where
  abbrev w : View
  w = searched.view

  left : IsLeft v w
  left = left_by_search v w searched.steps searched.searches may.alone may.locked

  -- but for what it knows, holds, sees and has reserved it is the view before
  abbrev still : View
  still = record v { known = w.known; run_words = w.run_words; zone_words = w.zone_words; locks = w.locks; zone_locks = w.zone_locks; reserved = w.reserved; seen = w.seen }

  is_still : w ≡ still
  is_still = is_searched v w searched.kept left

  module _ (z k : ℕ) (inside : z < v.zones) (small : k < 64) (clear : bit_at (occ_in w (Zone z)) k ≢ 1) where
    before : IsUnused v (page_in v.lanes z k)
    before = may.unused z k inside small (λ set. clear (all_set v w searched.steps searched.searches may.alone (Zone z) k set))

    not_taken : reserves w (Zone z) k ≡ true → ⊥
    not_taken has = ⊎_elim
        (λ (first : reserves v (Zone z) k ≡ true). false≢true (sym (chunk_as v.lanes z k small v ∙ before.no_chunk) ∙ first))
        (λ (set : bit_at (occ_in w (Zone z)) k ≡ 1). clear set)
        (all_taken v w searched.steps searched.searches may.alone z k (let pictured = may.pictured in omega (arith, inside, pictured)) has)

    not_of_run : (bit : ℕ) → reserves w (run_at (page_in v.lanes z k)) bit ≡ true → ⊥
    not_of_run bit has =
        let page : ℕ = page_in v.lanes z k in
        let here : 4096 * page / 4096 ≡ page = omega arith in
        ⊎_elim
        (λ (first : reserves v (run_at page) bit ≡ true). false≢true (sym (before.no_block bit) ∙ first))
        (λ (run : IsOfRun v (4096 * page)). false≢true (sym (ap (λ p. is_run (slice_index v.words (descriptor_word v.lanes p))) here ∙ ap is_run before.undescribed) ∙ run))
        (all_of_runs v w searched.steps searched.searches may.alone may.locked (4096 * page) bit has)

    unused_still : IsUnused still (page_in v.lanes z k)
    unused_still = record {
      undescribed = before.undescribed;
      closed = λ bit few. all_set v w searched.steps searched.searches may.alone (run_at (page_in v.lanes z k)) bit (before.closed bit few);
      no_chunk = sym (chunk_as v.lanes z k small w) ∙ false_from_ne_true (reserves w (Zone z) k) not_taken;
      no_block = λ bit. false_from_ne_true (reserves w (run_at (page_in v.lanes z k)) bit) (not_of_run bit);
      drained = before.drained;
      unlogged = before.unlogged;
    }

  pub may_still : MayMakeRun w shape
  may_still = subst (λ x. MayMakeRun x shape) (sym is_still) (record {
    search = record { shape = record { lanes = may.search.shape.lanes; zones = may.search.shape.zones; size = may.search.shape.size }; early = may.search.early; unlocked = searched.zones ∙ may.search.unlocked };
    alone = may.alone;
    working = subst IsWorking is_still (works_still v w searched.kept left may.working);
    locked = subst (λ x. All (IsThere x) x.locks) is_still left.locked;
    pictured = (let as_many = searched.kept.zone_words in let pictured = may.pictured in omega (arith, as_many, pictured));
    unused = λ z k inside small clear. unused_still z k inside small clear;
  })

module _ (v : View) (shape : Shape) (may : MayMakeRun v shape) (at : View → Type 0) where
  refused : (count : ℕ) (r : Refusal) → ReserveEnds at v count (Err r) → IsLeast v count (Err r) → (w : View) × (at w × MayMakeRun w shape)
  refused count refusal.NoSpace ends least = (ends.view, (ends.there, may_still v shape may at [] _ ends))
  refused count r ends least = absurd least

  -- so behind a search that found no such chunks
  pub goes_on : (count : ℕ) (r : Refusal) (result : Result Block NoBlock) → IsErrAnd result (λ why. why ≡ no_block.Refused r) → ReserveEnds at v count (Err r) → IsLeast v count (Err r) → MayGoOn at shape result
  goes_on count r (Ok block) is ends least = absurd is
  goes_on count r (Err why) is ends least = subst (λ (e : NoBlock). MayGoOn at shape (Err e)) (sym is) (refused count r ends least)
