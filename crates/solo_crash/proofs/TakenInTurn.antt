-- What is taken behind all that is published at once.
use Rattle.std.proofs.Common.{◌≡◌, ◌⊎◌, ◌↔◌, inl, inr, ⊎_elim, ℕ, ◌+◌, ◌*◌, ◌/◌, ◌%◌, ◌<◌, ◌≤◌, true, List, [], ◌∷◌, Some, sym, ◌∙◌, ap, arith}
use Rattle.std.specs.Int.{bit_at}
use Rattle.std.specs.List.{All}
use Rattle.std.proofs.lemmas.Bool.{eqb-true}
use Rattle.pm_header.specs.declared.header.Header.{Header}
use Rattle.pm_objects.specs.declared.pool.PoolView.{PoolView}
use Rattle.pm_layout.specs.declared.class.Class.TheVariants.{Lines}
use Rattle.pm_image.specs.Blocks.{class_in, descriptor_word}
use Rattle.solo_view.specs.declared.occ.Occ.{Occ}
use Rattle.solo_view.specs.declared.occ.Occ.TheVariants.{Run, Zone}
use Rattle.solo_view.specs.Blocks.{is_run, zone_page}
use Rattle.solo_view.specs.Occupancy.{is_block_taken, is_taken}
use Rattle.solo_world.specs.Heap.{IsOcc}
use Rattle.solo_world.specs.History.{made_final}
use Rattle.solo_crash.specs.Held.{HoldsPool}
use Rattle.solo_crash.specs.HeapChanges.{CanChange, HeapChange, changed}
use Rattle.solo_crash.specs.HeapChanges.HeapChange.{AllocatesChunks, AllocatesInRun, FreesChunks, FreesInRun}
use Rattle.solo_crash.specs.Publishing.{AreInOrder, CanPublish, HaveTheirObjects, Published, pool_published, published}
use Rattle.solo_crash.specs.Publishing.Published.{Changes, Performs}
use Rattle.solo_crash.specs.Taken.{TakenBehind, TakenBehindAll}
use Rattle.solo_crash.proofs.Apart.{good_chunk}
use Rattle.solo_crash.proofs.Classes.{run_by_byte}
use Rattle.solo_crash.proofs.KeptHeads.{KeepsHeads}
use Rattle.solo_crash.proofs.OneChange.{allocated_chunks, allocated_in_run, freed_chunks, freed_in_run}
use Rattle.solo_crash.proofs.PublishedInTurn.{action_heads, in_turn, step_holds, CanCome, InTurn}
use Rattle.solo_crash.proofs.TakenChanges.{block_still, chunk_in, chunks_give, chunks_take, freed_takes, made_takes, page_chunk, row_word, still_taken}

-- one way and the other, through a third
through : {A B C : Type 0} → A ↔ B → B ↔ C → A ↔ C
through one two = (λ a. two.0 (one.0 a), λ c. one.1 (two.1 c))

-- what is behind follows what was before
behind_alike : (lanes : ℕ) (s : Published) (at : Occ) (bit : ℕ) {P Q : Type 0} → P ↔ Q → TakenBehind lanes s at bit P ↔ TakenBehind lanes s at bit Q
behind_alike lanes (Performs a) at bit alike = alike
behind_alike lanes (Changes change) at bit alike = (
  (λ some. ⊎_elim (λ t. inl (alike.0 t.0, t.1)) (λ new. inr new) some),
  (λ some. ⊎_elim (λ t. inl (alike.1 t.0, t.1)) (λ new. inr new) some),
)

all_alike : (lanes : ℕ) (steps : List Published) (at : Occ) (bit : ℕ) {P Q : Type 0} → P ↔ Q → TakenBehindAll lanes steps at bit P ↔ TakenBehindAll lanes steps at bit Q
unfolding TakenBehindAll
all_alike lanes [] at bit alike = alike
all_alike lanes (s ∷ steps) at bit alike = all_alike lanes steps at bit (behind_alike lanes s at bit alike)

-- words of the same descriptors and bitmaps have the same taken
module _ (w v : ℕ → ℕ) (lanes zones : ℕ) (header : Header) (pool : PoolView) (holds : HoldsPool w lanes zones header pool) (keeps : KeepsHeads w v lanes zones) where
  outside_same : (at : Occ) (bit : ℕ) → IsOcc lanes zones at → bit < 64 → (is_taken v lanes at bit ≡ true) ↔ (is_taken w lanes at bit ≡ true)
  outside_same (Zone zone) bit of low =
      let word : (k : ℕ) → k ≤ bit → v (512 * zone_page lanes zone + k) ≡ w (512 * zone_page lanes zone + k) =
      λ k less. let at = row_word lanes zone k (omega (arith, less, low)) in ap v at ∙ (keeps.descriptors (64 * zone + k) (omega (arith, less, low, of)) ∙ ap w (sym at)) in (
        still_taken v w lanes zone bit (λ k less. sym (word k less)),
        still_taken w v lanes zone bit word,
      )
  outside_same (Run place) bit of low =
      let page : ℕ = place / 4096 in
      let k : ℕ = chunk_in lanes page in
      let at = page_chunk lanes zones page of.1 of.2 in
      let still : is_block_taken v lanes page bit ≡ is_block_taken w lanes page bit =
      block_still w v lanes zones holds.no_fault page bit (ap v at.of.descriptor ∙ (keeps.descriptors k at.in_zones ∙ ap w (sym at.of.descriptor)))
      (λ run.
      let lines : ℕ = w (descriptor_word lanes k) / 256 in
      let is = ap (λ i. is_run (w i)) (sym at.of.descriptor) ∙ run in
      let of_run : class_in (w (descriptor_word lanes k)) ≡ Some (Lines lines) = run_by_byte w lanes k (good_chunk w lanes zones k holds.no_fault at.in_zones) (eqb-true (w (descriptor_word lanes k) % 256) 1 is) in
      ap (λ n. bit_at n bit) (ap v at.of.bitmap ∙ (keeps.bitmaps k lines at.in_zones of_run ∙ ap w (sym at.of.bitmap)))) in
      (λ taken. sym still ∙ taken, λ taken. still ∙ taken)

-- ---- one of them

more_behind : {P Q R : Type 0} → R ↔ (P ⊎ Q) → R ↔ ((P × ¬ ⊥) ⊎ Q)
more_behind alike = (
  (λ r. ⊎_elim (λ p. inl (p, λ never. never)) (λ q. inr q) (alike.0 r)),
  (λ some. alike.1 (⊎_elim (λ t. inl t.0) (λ q. inr q) some)),
)

less_behind : {P Q R : Type 0} → R ↔ (P × ¬ Q) → R ↔ ((P × ¬ Q) ⊎ ⊥)
less_behind alike = (
  (λ r. inl (alike.0 r)),
  (λ some. ⊎_elim (λ t. alike.1 t) (λ never. absurd never) some),
)

module _ (w : ℕ → ℕ) (lanes zones : ℕ) (header : Header) (pool : PoolView) (holds : HoldsPool w lanes zones header pool) (at : Occ) (bit : ℕ) (of : IsOcc lanes zones at) (low : bit < 64) where
  change_takes : (change : HeapChange) → CanChange w lanes zones change → (is_taken (changed lanes change w) lanes at bit ≡ true) ↔ TakenBehind lanes (Changes change) at bit (is_taken w lanes at bit ≡ true)
  change_takes (AllocatesInRun c lines index kind bytes) can =
      more_behind (made_takes w (changed lanes (AllocatesInRun c lines index kind bytes) w) lanes zones c lines index kind bytes holds.no_fault (allocated_in_run w lanes zones holds.no_fault c lines index kind bytes can) at bit of low)
  change_takes (AllocatesChunks c chunks kind bytes) can =
      more_behind (chunks_take w (changed lanes (AllocatesChunks c chunks kind bytes) w) lanes zones c chunks kind bytes holds.no_fault (allocated_chunks w lanes zones holds.no_fault c chunks kind bytes can) at bit of low)
  change_takes (FreesInRun c lines index) can =
      less_behind ((freed_takes w (changed lanes (FreesInRun c lines index) w) lanes zones c lines index holds.no_fault (freed_in_run w lanes zones holds.no_fault c lines index can)).less at bit of low)
  change_takes (FreesChunks c chunks) can =
      less_behind ((chunks_give w (changed lanes (FreesChunks c chunks) w) lanes zones c chunks holds.no_fault (freed_chunks w lanes zones holds.no_fault c chunks can)).less at bit of low)

  step_takes : (s : Published) → CanCome w lanes zones s → (is_taken (published lanes (s ∷ []) w) lanes at bit ≡ true) ↔ TakenBehind lanes s at bit (is_taken w lanes at bit ≡ true)
  step_takes (Performs a) can = outside_same w (published lanes (Performs a ∷ []) w) lanes zones header pool holds (action_heads w lanes zones header pool holds a can) at bit of low
  step_takes (Changes change) can = change_takes change can

-- ---- and all

pub all_take : (w : ℕ → ℕ) (lanes zones : ℕ) (header : Header) (pool : PoolView) (steps : List Published) (at : Occ) (bit : ℕ) → HoldsPool w lanes zones header pool → All (CanPublish w lanes zones) steps → AreInOrder lanes steps
    → HaveTheirObjects w lanes steps → IsOcc lanes zones at → bit < 64 → (is_taken (published lanes steps w) lanes at bit ≡ true) ↔ TakenBehindAll lanes steps at bit (is_taken w lanes at bit ≡ true)
unfolding TakenBehindAll made_final
all_take w lanes zones header pool [] at bit holds can order have of low = (λ taken. taken, λ taken. taken)
all_take w lanes zones header pool (s ∷ steps) at bit holds can order have of low =
    let u : ℕ → ℕ = published lanes (s ∷ []) w in
    let turn : InTurn w lanes zones header pool holds s steps = in_turn w lanes zones header pool holds s steps can order.0 have in
    through
    (all_take u lanes zones header (pool_published lanes s pool) steps at bit (step_holds w lanes zones header pool holds s turn.first) turn.can order.1 turn.have of low)
    (all_alike lanes steps at bit (step_takes w lanes zones header pool holds at bit of low s turn.first))
