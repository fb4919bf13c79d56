-- Steps that are not lawful, by how far the lane's call has come.
use Rattle.std.specs.Prelude.{List, [], ◌∷◌, ◌++◌, All, Any, not, ◌&&◌, unwrap_or}
use Rattle.std.proofs.Common.{◌≡◌, ◌≢◌, ℕ, ◌+◌, ◌*◌, ◌⊎◌, ⊎_elim, Bool, true, false, refl, sym, ap, ◌∙◌, subst, arith, Some}
use Rattle.std.proofs.lemmas.Bool.{both_ways, and_from}
use Rattle.std.proofs.lemmas.List.Elements.{All-contains}
use Rattle.pm_record.specs.declared.redo.Op.{Op}
use Rattle.pm_record.specs.declared.redo.Op.TheVariants as op
use Rattle.pm_view.specs.declared.occ.Occ.{Occ}
use Rattle.pm_view.specs.Claims.{is_among}
use Rattle.pm_view.specs.Places.{Place, Big}
use Rattle.pm_view.specs.Entries.{Entry}
use Rattle.pm_view.specs.Parts.{Part, GenerationPart, SealPart, EntryPart, SlotPart, RootPart, DescriptorPart, ChunkPart, OtherPart}
use Rattle.pm_view.specs.Log.{Phase, Idle, Open, Drawn, Sealing, Applying, Clearing, Retiring, Voiding, is_early}
use Rattle.pm_view.specs.Steps.Step.{Load, Store, Or, And, Flush, Drain, TakeWrite, TakeRead, Raise, Give, ZoneTry, ZoneGive, Occupied, Occupy, Vacate, Draw, NumberSeen, StopSeen, SetStop, Tell}
use Rattle.pm_view.specs.View.{View, Told}
use Rattle.pm_view.specs.Views.{part_in}
use Rattle.pm_world.specs.Sights.{is_logged}
use Rattle.pm_world.specs.Memory.{Location, Memory, PoolWord, LockWord, RunWord, ZoneWord, ZoneLock, CommitCounter, StopWord, IsSame, IsSameBut}
use Rattle.pm_world.specs.Lawful.{place_in, block_in, is_mine, names, is_reserve, is_cancelled, IsApartFrom, IsUnnamed, MayWrite, MayFill, Clears, StoreFits, ChangeFits, GiveFits}
use Rattle.pm_world.specs.WrongSteps.{IsUnwritable, is_user_part, NoUnloggedChange, NoHastySeal, NoHastyClear, NoHastyGive, NoHastyRelease, NoEnteredRelease, NoForeignRelease, NoForeignChunkRelease, NoToldRelease, NoPublishedRelease, StoresAreInPool, OccupancyStays}
use Rattle.pm_world.proofs.Cells.{sort, other_sort}

-- ---- a user's word
module _ (v : View) (w : ℕ) (p : Place) (at : place_in v w ≡ Some p)
    (l : is_logged v.fixed.shape v.fixed.lane v.changes v.log.records p ≡ false)
    (m : is_mine v (block_in v p 64) ≡ false) where
  abbrev own : Place → Bool
  own q = is_mine v (block_in v q 64)

  abbrev logged : Place → Bool
  logged q = is_logged v.fixed.shape v.fixed.lane v.changes v.log.records q

  same : (q : Place) → place_in v w ≡ Some q → p ≡ q
  same q e = ap (λ o. unwrap_or o p) (sym at ∙ e)

  unfilled : MayFill v w → ⊥
  unfilled f =
      both_ways (own p) m (ap own (same f.place f.at) ∙ f.own)

  unwritten : MayWrite v w → ⊥
  unwritten f =
      both_ways (logged p) l (ap logged (same f.place f.at) ∙ f.logged)

  in_chunk : (x c i : ℕ) (ph : Phase) → ((todo : List Entry) → ph ≢ Applying todo)
      → StoreFits v w x ph (ChunkPart c i) → ⊥
  in_chunk x c i Idle n f = unfilled f
  in_chunk x c i Open n f = ⊎_elim unwritten unfilled f
  in_chunk x c i (Drawn k) n f = f
  in_chunk x c i (Sealing k) n f = f
  in_chunk x c i (Applying todo) n f = n todo refl
  in_chunk x c i Clearing n f = f
  in_chunk x c i (Retiring k) n f = f
  in_chunk x c i Voiding n f = f

  in_root : (x : ℕ) (ph : Phase) → ((todo : List Entry) → ph ≢ Applying todo)
      → StoreFits v w x ph RootPart → ⊥
  in_root x Idle n f = f
  in_root x Open n f = f
  in_root x (Drawn k) n f = f
  in_root x (Sealing k) n f = f
  in_root x (Applying todo) n f = n todo refl
  in_root x Clearing n f = f
  in_root x (Retiring k) n f = f
  in_root x Voiding n f = f

  pub unstored : (x : ℕ) (ph : Phase) (part : Part) → is_user_part part ≡ true
      → ((todo : List Entry) → ph ≢ Applying todo) → StoreFits v w x ph part → ⊥
  unstored x ph GenerationPart u n f = both_ways false refl u
  unstored x ph SealPart u n f = both_ways false refl u
  unstored x ph EntryPart u n f = both_ways false refl u
  unstored x ph SlotPart u n f = both_ways false refl u
  unstored x ph RootPart u n f = in_root x ph n f
  unstored x ph (DescriptorPart c) u n f = both_ways false refl u
  unstored x ph (ChunkPart c i) u n f = in_chunk x c i ph n f
  unstored x ph OtherPart u n f = both_ways false refl u

-- words are changed by ORs and ANDs as entries are applied alone
unchanged_in : (v : View) (how : Op) (w bits : ℕ) (ph : Phase) (part : Part)
    → ((todo : List Entry) → ph ≢ Applying todo) → ChangeFits v how w bits ph part → ⊥
unchanged_in v how w bits Idle part n f = f
unchanged_in v how w bits Open part n f = f
unchanged_in v how w bits (Drawn k) part n f = f
unchanged_in v how w bits (Sealing k) part n f = f
unchanged_in v how w bits (Applying todo) part n f = n todo refl
unchanged_in v how w bits Clearing part n f = f
unchanged_in v how w bits (Retiring k) part n f = f
unchanged_in v how w bits Voiding part n f = f

pub no_unlogged_change : NoUnloggedChange
no_unlogged_change v w p u at n l m = (
  λ x law. unstored v w p at l m x v.log.phase (part_in v w) u n law.allowed.fits,
  λ bits found law. unchanged_in v op.Or w bits v.log.phase (part_in v w) n law.allowed.fits,
  λ bits found law. unchanged_in v op.And w bits v.log.phase (part_in v w) n law.allowed.fits,
)

-- ---- the seal
seal_unchanged : (v : View) (how : Op) (w bits : ℕ) (ph : Phase)
    → ChangeFits v how w bits ph SealPart → ⊥
seal_unchanged v how w bits Idle f = f
seal_unchanged v how w bits Open f = f
seal_unchanged v how w bits (Drawn k) f = f
seal_unchanged v how w bits (Sealing k) f = f
seal_unchanged v how w bits (Applying todo) f = f
seal_unchanged v how w bits Clearing f = f
seal_unchanged v how w bits (Retiring k) f = f
seal_unchanged v how w bits Voiding f = f

seal_stored : (v : View) (w x : ℕ) (ph : Phase) → v.changes ≢ [] → StoreFits v w x ph SealPart → ⊥
seal_stored v w x Idle n f = f
seal_stored v w x Open n f = f
seal_stored v w x (Drawn k) n f = n f.drained
seal_stored v w x (Sealing k) n f = f
seal_stored v w x (Applying todo) n f = n f.drained
seal_stored v w x Clearing n f = f
seal_stored v w x (Retiring k) n f = f
seal_stored v w x Voiding n f = f

seal_kept : (v : View) (w : ℕ) → part_in v w ≡ SealPart → ((x : ℕ)
    → StoreFits v w x v.log.phase SealPart → ⊥) → IsUnwritable v w
seal_kept v w e n = (
  λ x law. n x (subst (StoreFits v w x v.log.phase) e law.allowed.fits),
  λ bits found law. seal_unchanged v op.Or w bits v.log.phase
      (subst (ChangeFits v op.Or w bits v.log.phase) e law.allowed.fits),
  λ bits found law. seal_unchanged v op.And w bits v.log.phase
      (subst (ChangeFits v op.And w bits v.log.phase) e law.allowed.fits),
)

pub no_hasty_seal : NoHastySeal
no_hasty_seal v w e n = seal_kept v w e (λ x f. seal_stored v w x v.log.phase n f)

clear_wrong : (v : View) (x : ℕ) (todo : List Entry) → (v.changes ≢ []) ⊎ (todo ≢ [])
    → Clears v x todo → ⊥
clear_wrong v x todo n f =
    ⊎_elim (λ (a : v.changes ≢ []). a f.drained) (λ (a : todo ≢ []). a f.all) n

pub no_hasty_clear : NoHastyClear
no_hasty_clear v w todo e q n =
    seal_kept v w e (λ x f. clear_wrong v x todo n (subst (λ ph. StoreFits v w x ph SealPart) q f))

-- ---- locks
give_late : (v : View) (line : ℕ) (ph : Phase) → is_early ph ≡ false → GiveFits v line ph → ⊥
give_late v line Idle e f = both_ways true e refl
give_late v line Open e f = both_ways true e refl
give_late v line (Drawn k) e f = f
give_late v line (Sealing k) e f = f
give_late v line (Applying todo) e f = f
give_late v line Clearing e f = f
give_late v line (Retiring k) e f = f
give_late v line Voiding e f = f

pub no_hasty_give : NoHastyGive
no_hasty_give v line e law = give_late v line v.log.phase e law.allowed.fits

-- ---- blocks
pub no_hasty_release : NoHastyRelease
no_hasty_release v at bits n law = both_ways (is_early v.log.phase) n law.allowed.early

pub no_entered_release : NoEnteredRelease
no_entered_release v at bits e p b c q t u law =
    both_ways (is_among v.fixed.shape at bits (block_in v p b))
    (All-contains (IsApartFrom v at bits) v.log.entries e law.allowed.unentered c p b q t) u

pub no_foreign_release : NoForeignRelease
no_foreign_release v place bits i e m law = both_ways _ m (law.allowed.whole i e)

pub no_foreign_chunk_release : NoForeignChunkRelease
no_foreign_chunk_release v zone bits i e n law =
    let g = (law.allowed.whole i e).1 in let a = g.3 in let b = g.4 in
    both_ways (is_mine v (Big (64 * zone + g.0)))
    (n (64 * zone + g.0) (omega (arith, a)) (omega (arith, b))) g.1

none_named : (v : View) (at : Occ) (bits : ℕ) (call : List Told)
    → Any (λ (t : Told). names v at bits t ≡ true) call
    → All (λ (t : Told). names v at bits t ≡ false) call → ⊥
none_named v at bits call a f =
    both_ways (names v at bits a.1)
    (subst (λ t. names v at bits t ≡ false) a.3 (f a.0 a.1 a.2)) a.4

pub no_told_release : NoToldRelease
no_told_release v at bits earlier later t e q n c law =
    go earlier (subst (IsUnnamed v at bits) q (law.allowed.unnamed e))
  where
    go : (call : List Told) → IsUnnamed v at bits (call ++ t ∷ later) → ⊥
    go [] f = both_ways (names v at bits t && not (is_reserve t.operation && is_cancelled later))
        f.0 (and_from (names v at bits t) _ n (ap not c))
    go (s ∷ call) f = go call f.1

pub no_published_release : NoPublishedRelease
no_published_release v at bits e a law =
    none_named v at bits v.published a (law.allowed.unpublished e)

-- ---- occupancy words
pub stores_are_in_pool : StoresAreInPool
stores_are_in_pool v w x law = law.allowed.inside

-- the occupancy words stay: where no word changes, and where one word of another sort does
abbrev Stays : Memory → Memory → ℕ → Type 0
Stays old new n = (new (RunWord n) ≡ old (RunWord n)) × (new (ZoneWord n) ≡ old (ZoneWord n))

all_same : (old new : Memory) (n : ℕ) → IsSame old new → Stays old new n
all_same old new n s = (s (RunWord n), s (ZoneWord n))

else_changed : (l : Location) (old new : Memory) (n : ℕ) → sort l ≢ 2 → sort l ≢ 3
    → IsSameBut l old new → Stays old new n
else_changed l old new n a b s = (
  s (RunWord n) (other_sort (RunWord n) l (λ e. a (sym e))),
  s (ZoneWord n) (other_sort (ZoneWord n) l (λ e. b (sym e))),
)

pool_changed : (w : ℕ) (old new : Memory) (n : ℕ)
    → IsSameBut (PoolWord w) old new → Stays old new n
pool_changed w old new n s =
    else_changed (PoolWord w) old new n (λ q. omega arith) (λ q. omega arith) s

lock_changed : (line : ℕ) (old new : Memory) (n : ℕ)
    → IsSameBut (LockWord line) old new → Stays old new n
lock_changed line old new n s =
    else_changed (LockWord line) old new n (λ q. omega arith) (λ q. omega arith) s

zone_lock_changed : (zone : ℕ) (old new : Memory) (n : ℕ)
    → IsSameBut (ZoneLock zone) old new → Stays old new n
zone_lock_changed zone old new n s =
    else_changed (ZoneLock zone) old new n (λ q. omega arith) (λ q. omega arith) s

counter_changed : (old new : Memory) (n : ℕ) → IsSameBut CommitCounter old new → Stays old new n
counter_changed old new n s =
    else_changed CommitCounter old new n (λ q. omega arith) (λ q. omega arith) s

stop_changed : (old new : Memory) (n : ℕ) → IsSameBut StopWord old new → Stays old new n
stop_changed old new n s = else_changed StopWord old new n (λ q. omega arith) (λ q. omega arith) s

pub occupancy_stays : OccupancyStays
occupancy_stays lane (Load w found) old new m o n = all_same old new n m.0
occupancy_stays lane (Store w x) old new m o n = pool_changed w old new n m.0
occupancy_stays lane (Or w bits found) old new m o n = pool_changed w old new n m.0.0
occupancy_stays lane (And w bits found) old new m o n = pool_changed w old new n m.0.0
occupancy_stays lane (Flush line) old new m o n = all_same old new n m
occupancy_stays lane Drain old new m o n = all_same old new n m
occupancy_stays lane (TakeWrite line true) old new m o n = lock_changed line old new n m.0
occupancy_stays lane (TakeWrite line false) old new m o n = all_same old new n m.0
occupancy_stays lane (TakeRead line true) old new m o n = lock_changed line old new n m.0
occupancy_stays lane (TakeRead line false) old new m o n = all_same old new n m.0
occupancy_stays lane (Raise line true) old new m o n = lock_changed line old new n m.0
occupancy_stays lane (Raise line false) old new m o n = all_same old new n m.0
occupancy_stays lane (Give line) old new m o n = lock_changed line old new n m.0
occupancy_stays lane (ZoneTry zone true) old new m o n = zone_lock_changed zone old new n m.0.0
occupancy_stays lane (ZoneTry zone false) old new m o n = all_same old new n m.0
occupancy_stays lane (ZoneGive zone) old new m o n = zone_lock_changed zone old new n m.0
occupancy_stays lane (Occupied at found) old new m o n = all_same old new n m.0
occupancy_stays lane (Occupy at bits won) old new m o n = absurd (both_ways true o refl)
occupancy_stays lane (Vacate at bits) old new m o n = absurd (both_ways true o refl)
occupancy_stays lane (Draw k) old new m o n = counter_changed old new n m.0.0
occupancy_stays lane (NumberSeen k) old new m o n = all_same old new n m.0
occupancy_stays lane (StopSeen set) old new m o n = all_same old new n m.0
occupancy_stays lane SetStop old new m o n = stop_changed old new n m.0
occupancy_stays lane (Tell operation reply) old new m o n = all_same old new n m
