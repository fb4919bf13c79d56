-- A CALL'S OWN BLOCKS: what a lane has for its own is free, whatever bits may precede its call. So
-- its call may make blocks of it.
use Rattle.std.specs.Prelude.{◌≡◌, ℕ, ◌+◌, ◌%◌, ◌<◌, ◌≤◌, Bool, true}
use Rattle.pm_header.specs.declared.header.Header.{Header}
use Rattle.pm_layout.specs.Chunks.{chunks_of}
use Rattle.pm_layout.specs.Sizes.{blocks_of}
use Rattle.pm_objects.specs.declared.pool.PoolView.{PoolView}
use Rattle.pm_view.specs.Claims.{class, span}
use Rattle.pm_view.specs.Places.{Block, Small, Big, Descr, in_span}
use Rattle.pm_view.specs.View.{View}
use Rattle.pm_world.specs.States.{State, Diff, after_diff, val}
use Rattle.pm_crash.specs.Footprints.{MayPrecedeBut, has_found, has_own}
use Rattle.pm_crash.specs.HeapChanges.{ChangesBlocks, Frees, Makes}
use Rattle.pm_crash.specs.Spelled.{Holds, number}

-- how many chunks the lane's own huge block has, as it knows
abbrev pub own_span : View → ℕ → ℕ
own_span v f = span v.fixed.shape v.claims f

-- WHAT A LANE'S VIEW SAYS OF ITS DIFFERENCE. Nothing is said of what other lanes have
pub record MakesOwnBlocks (v : View) (own : Block → Bool) (s : State) (d : Diff) : Type 0 where
  -- it makes blocks of its own, of these, and frees those that it found
  pub makes : (B : Block) → Makes d B → (own B ≡ true) × (has_own v B ≡ true)
  pub frees : (B : Block) → Frees d B → has_found v B ≡ true
  -- of a run, one that a run of this class has
  pub inside : (c i : ℕ) → Makes d (Small c i) → i < blocks_of (class v.claims c)
  -- of whole chunks, some of one zone, with the descriptor that says so
  pub in_pool : (f : ℕ) → Makes d (Big f) → f < chunks_of v.fixed.shape
  pub in_zone : (f : ℕ) → Makes d (Big f) → f % 64 + own_span v f ≤ 64
  pub some : (f : ℕ) → Makes d (Big f) → 1 ≤ own_span v f
  pub low : (f : ℕ) → Makes d (Big f) → number (after_diff d s (Descr f)) % 256 ≡ 2
  pub spans : (f : ℕ) → Makes d (Big f) → val (after_diff d s (Descr f)) 8 56 ≡ own_span v f
  -- of which it makes nothing else
  pub no_run : (f c i : ℕ) → Makes d (Big f) → in_span f (own_span v f) c ≡ true
      → Makes d (Small c i) → ⊥
  pub no_other : (f c : ℕ) → Makes d (Big f) → in_span f (own_span v f) c ≡ true
      → Makes d (Big c) → c ≡ f

-- SO ITS BLOCKS CHANGE as a heap's may
abbrev pub OwnBlocksAreFree : Type 0
OwnBlocksAreFree = (v : View) (own : Block → Bool) (class : ℕ → ℕ) (s : State) (d : Diff)
    (header : Header) (pool : PoolView) → Holds v.fixed.shape class s header pool
    → MayPrecedeBut class v own s → MakesOwnBlocks v own s d
    → ChangesBlocks v.fixed.shape class s d
