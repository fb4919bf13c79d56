-- WHAT A LANE HAS AND KNOWS STAYS as it looks for objects under some locks.
use Rattle.std.proofs.Common.{◌≡◌, ◌≢◌, ◌<◌, ℕ, zero, suc, Bool, true, false, cond, ◌==◌, ◌||◌, List, [], ◌∷◌, ◌++◌, refl, sym, ap, ◌∙◌, subst, ne_eqb, None, Some}
use Rattle.std.specs.List.{AllByRecursion}
use Rattle.std.proofs.lemmas.Bool.{both_ways, cond-false, or_right}
use Rattle.std.proofs.lemmas.Option.{none-some}
use Rattle.pm_layout.specs.declared.shape.Shape.{Shape}
use Rattle.pm_layout.specs.Chunks.{word_of_chunk, word_of_descriptor}
use Rattle.pm_view.specs.Claims.{Claim, Knows, SawDescriptor, block_in, class, found, is_new, pictured, shown_by_bitmap, shown_by_descriptor}
use Rattle.pm_view.specs.Log.{Phase, Idle, Open, Drawn, Sealing, Applying, Clearing, Retiring, Voiding, is_early, place_at}
use Rattle.pm_view.specs.Parts.{Part, GenerationPart, SealPart, EntryPart, SlotPart, RootPart, DescriptorPart, ChunkPart, OtherPart, place_in}
use Rattle.pm_view.specs.Steps.{Step}
use Rattle.pm_view.specs.Steps.Step.{Load}
use Rattle.pm_view.specs.View.{View}
use Rattle.pm_view.specs.Views.{after, after_all, learned, part_in, seen_by}
use Rattle.pm_world.specs.declared.lane.HeldLock.{HeldLock}
use Rattle.pm_crash.specs.Roots.{saw_root}
use Rattle.pm_crash.proofs.RootClaims.{seen_alike}
use Rattle.pm_lock.specs.Acquiring.{AreFinds}
use Rattle.pm_lock.specs.Objects.{HasLooked, chunk_of_line, finds, has_lines, is_chunk_line, looks_at_bitmap}
use Rattle.pm_lock.proofs.Looks.{bitmap_pool, chunk_line, descriptor_pool}
use Rattle.pm_call.proofs.KeptClaims.{KeepsAll, claiming}

-- words that are no place, whatever the runs are, and the root word
abbrev IsNoPlace : Shape → ℕ → Type 0
IsNoPlace sh u = (cl : ℕ → ℕ) → place_at sh cl u ≡ None

pub record KeepsBeside (v : View) (t : List Claim) : Type 0 where
  pub beside : (u : ℕ) → IsNoPlace v.fixed.shape u → pictured v.fixed.shape t u ≡ pictured v.fixed.shape v.claims u
  pub roots : (line value : ℕ) → saw_root v.fixed.shape v.claims line value ≡ true → saw_root v.fixed.shape t line value ≡ true

-- a look at a word that is a place
abbrev IsLookAt : Shape → Step → Type 0
IsLookAt sh s = (w : ℕ) × (x : ℕ) × (s ≡ Load w x) × ((u : ℕ) → IsNoPlace sh u → w ≢ u)

learned_early : (ph : Phase) (part : Part) (w x : ℕ) (t : List Claim) → is_early ph ≡ true → learned ph part w x t ≡ Knows w x ∷ seen_by part x t
learned_early Idle part w x t e = refl
learned_early Open part w x t e = refl
learned_early (Drawn n) part w x t e = absurd (both_ways false refl e)
learned_early (Sealing n) part w x t e = absurd (both_ways false refl e)
learned_early (Applying todo) part w x t e = absurd (both_ways false refl e)
learned_early Clearing part w x t e = absurd (both_ways false refl e)
learned_early (Retiring n) part w x t e = absurd (both_ways false refl e)
learned_early Voiding part w x t e = absurd (both_ways false refl e)

-- what is seen of chunks forgets words of places alone
seen_beside : (sh : Shape) (part : Part) (x : ℕ) (t : List Claim) (u : ℕ) → IsNoPlace sh u → pictured sh (seen_by part x t) u ≡ pictured sh t u
seen_beside sh GenerationPart x t u none = refl
seen_beside sh SealPart x t u none = refl
seen_beside sh EntryPart x t u none = refl
seen_beside sh SlotPart x t u none = refl
seen_beside sh RootPart x t u none = refl
seen_beside sh (DescriptorPart c) x t u none = ap (λ p. cond (is_new (shown_by_descriptor sh t c x) (found sh t) (block_in sh (SawDescriptor c x ∷ t) p 64)) None (pictured sh t u)) (none (class (SawDescriptor c x ∷ t)))
seen_beside sh (ChunkPart c zero) x t u none = ap (λ p. cond (is_new (shown_by_bitmap sh t c x) (found sh t) (block_in sh t p 64)) None (pictured sh t u)) (none (class t))
seen_beside sh (ChunkPart c (suc i)) x t u none = refl
seen_beside sh OtherPart x t u none = refl

loaded : (v : View) (w x : ℕ) → is_early v.log.phase ≡ true → after v (Load w x) ≡ claiming v (Knows w x ∷ seen_by (part_in v w) x v.claims)
loaded v w x early = ap (claiming v) (learned_early v.log.phase (part_in v w) w x v.claims early)

load_beside : (v : View) (w x : ℕ) → ((u : ℕ) → IsNoPlace v.fixed.shape u → w ≢ u) → KeepsBeside v (Knows w x ∷ seen_by (part_in v w) x v.claims)
load_beside v w x apart = record {
  beside = λ u none. cond-false (w == u) (Some x) (pictured v.fixed.shape (seen_by (part_in v w) x v.claims) u) (ne_eqb w u (apart u none)) ∙ seen_beside v.fixed.shape (part_in v w) x v.claims u none;
  roots = λ line value e. or_right _ (saw_root v.fixed.shape (seen_by (part_in v w) x v.claims) line value) ((seen_alike v.fixed.shape (part_in v w) x v.claims).saw line value ∙ e);
}

-- so it is after such looks
looks_beside : (v : View) (steps : List Step) → is_early v.log.phase ≡ true → AllByRecursion (IsLookAt v.fixed.shape) steps → (t : List Claim) × (after_all v steps ≡ claiming v t) × KeepsBeside v t
unfolding after_all
looks_beside v [] early are = (v.claims, refl, record { beside = λ u none. refl; roots = λ l x e. e })
looks_beside v (s ∷ steps) early are =
    let w : ℕ = are.0.0 in let x : ℕ = are.0.1 in
    let t : List Claim = Knows w x ∷ seen_by (part_in v w) x v.claims in
    let one = load_beside v w x are.0.3 in
    let more = looks_beside (claiming v t) steps early are.1 in (
      more.0,
      ap (λ y. after_all (after v y) steps) are.0.2 ∙ (ap (λ (y : View). after_all y steps) (loaded v w x early) ∙ more.1),
      record { beside = λ u none. more.2.beside u none ∙ one.beside u none; roots = λ l y e. more.2.roots l y (one.roots l y e) },
    )

-- the looks for objects are such
all_both : (sh : Shape) (one two : List Step) → AllByRecursion (IsLookAt sh) one → AllByRecursion (IsLookAt sh) two → AllByRecursion (IsLookAt sh) (one ++ two)
all_both sh [] two a b = b
all_both sh (s ∷ one) two a b = (a.0, all_both sh one two a.1 b)

module _ (sh : Shape) (lane : ℕ) (low : lane < sh.lanes) where
  at_descriptor : (c d : ℕ) → c < Rattle.pm_layout.specs.Chunks.chunks_of sh → IsLookAt sh (Load (word_of_descriptor sh c) d)
  at_descriptor c d inside = (word_of_descriptor sh c, d, refl, λ u none e. none-some _ (sym (none (λ n. 0)) ∙ (ap (place_at sh (λ n. 0)) (sym e) ∙ ap (place_in (λ n. 0)) (descriptor_pool sh lane c low inside))))

  at_bitmap : (c b : ℕ) → c < Rattle.pm_layout.specs.Chunks.chunks_of sh → IsLookAt sh (Load (word_of_chunk sh c) b)
  at_bitmap c b inside = (word_of_chunk sh c, b, refl, λ u none e. none-some _ (sym (none (λ n. 0)) ∙ (ap (place_at sh (λ n. 0)) (sym e) ∙ ap (place_in (λ n. 0)) (bitmap_pool sh lane c low inside))))

  are_one : (line d b : ℕ) → is_chunk_line sh line ≡ true → AllByRecursion (IsLookAt sh) (finds sh line d b)
  are_one line d b chunk = (at_descriptor (chunk_of_line sh line) d inside, by (has_lines d))
    where
      inside : chunk_of_line sh line < Rattle.pm_layout.specs.Chunks.chunks_of sh
      inside = (chunk_line sh line chunk).0

      by : (r : Bool) → AllByRecursion (IsLookAt sh) (looks_at_bitmap sh (chunk_of_line sh line) b r)
      by true = (at_bitmap (chunk_of_line sh line) b inside, tt)
      by false = tt

  are_looks : (locks : List HeldLock) (steps : List Step) → AllByRecursion (λ (l : HeldLock). is_chunk_line sh l.line ≡ true) locks → AreFinds sh locks steps → AllByRecursion (IsLookAt sh) steps
  unfolding AreFinds
  are_looks [] steps lines finds = subst (AllByRecursion (IsLookAt sh)) (sym finds) tt
  are_looks (l ∷ locks) steps lines f = subst (AllByRecursion (IsLookAt sh)) (sym f.3)
      (all_both sh (finds sh l.line f.0 f.1) f.2 (are_one l.line f.0 f.1 lines.0) (are_looks locks f.2 lines.1 f.4))

-- ALL STAYS
pub keeps_looked : (v : View) (locks : List HeldLock) (steps : List Step) → v.fixed.lane < v.fixed.shape.lanes → is_early v.log.phase ≡ true
    → AllByRecursion (λ (l : HeldLock). is_chunk_line v.fixed.shape l.line ≡ true) locks → AreFinds v.fixed.shape locks steps → HasLooked v (after_all v steps)
    → (t : List Claim) × (after_all v steps ≡ claiming v t) × KeepsAll v t
keeps_looked v locks steps low early lines finds looked =
    let are = are_looks v.fixed.shape v.fixed.lane low locks steps lines finds in
    let b = looks_beside v steps early are in
    let h : HasLooked v (claiming v b.0) = subst (HasLooked v) b.1 looked in (
      b.0,
      b.1,
      record {
        holds_on = λ l e. (λ i. h.locked l i || h.reads l i) ∙ e;
        making_same = h.making;
        mine_same = h.mine;
        found_on = h.found;
        span_same = h.span;
        class_same = h.class;
        data_same = h.data_;
        beside = b.2.beside;
        root_same = h.root;
        roots_on = b.2.roots;
      },
    )
