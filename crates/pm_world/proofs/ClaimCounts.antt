-- WHAT A STEP ADDS TO A LANE'S CLAIMS: what is counted among them only grows; a lock that is held
-- was
-- held before, or is taken; and no step but a load misses a block.
use Rattle.std.proofs.Common.{◌≡◌, ◌≢◌, ◌⊎◌, inl, inr, ⊎_elim, ℕ, zero, suc, ◌+◌, ◌/◌, ◌<◌, ◌≤◌}
use Rattle.std.proofs.Common.{Bool, true, false, cond, not, ◌==◌, ◌&&◌, ◌||◌, bit_and, bit_or}
use Rattle.std.proofs.Common.{List, [], ◌∷◌, refl, sym, ap, ◌∙◌, arith}
use Rattle.std.proofs.lemmas.Bool.{both_ways, and_parts, or_cases, or_left, or_right}
use Rattle.pm_layout.specs.declared.shape.Shape.{Shape}
use Rattle.pm_view.specs.Changes.{Undrained, drained}
use Rattle.pm_view.specs.Places.{Block}
use Rattle.pm_view.specs.Entries.{Entry, redos}
use Rattle.pm_view.specs.Parts.{Part, GenerationPart, SealPart, EntryPart, SlotPart, RootPart}
use Rattle.pm_view.specs.Parts.{DescriptorPart, ChunkPart, OtherPart}
use Rattle.pm_view.specs.Log.{Phase, Idle, Open, Drawn, Sealing, Applying, Clearing}
use Rattle.pm_view.specs.Log.{Retiring, Voiding, Log}
use Rattle.pm_view.specs.Claims.{Claim, Took, Raised, Gave, SawDescriptor, SawBitmap, Reserved}
use Rattle.pm_view.specs.Claims.{Released, Marked, Drained, Decided, Knows, locked, reads, holds}
use Rattle.pm_view.specs.Steps.{Step}
use Rattle.pm_view.specs.Steps.Step.{Load, Store, Or, And, Flush, Drain, TakeWrite, TakeRead}
use Rattle.pm_view.specs.Steps.Step.{Raise, Give, ZoneTry, ZoneGive, Occupied, Occupy, Vacate}
use Rattle.pm_view.specs.Steps.Step.{Draw, NumberSeen, StopSeen, SetStop, Tell}
use Rattle.pm_view.specs.View.{View}
use Rattle.pm_view.specs.Views.{after, part_in, seen_by, learned, marked_by, decided_by}
use Rattle.pm_view.specs.Views.{claims_drained, begun}
use Rattle.pm_world.specs.Causes.{times_locked, times_missed, chunks_got}

-- a claim that is neither what a load showed nor a raise, and a step that adds no other claims
abbrev is_base : Claim → Bool
is_base (Raised m) = false
is_base (SawDescriptor c x) = false
is_base (SawBitmap c x) = false
is_base e = true

abbrev is_base_step : Step → Bool
is_base_step (Load w x) = false
is_base_step (Raise l won) = false
is_base_step s = true

by_step : (P : Step → Type 0) → ((w x : ℕ) → P (Load w x))
    → ((l : ℕ) (won : Bool) → P (Raise l won))
    → ((s : Step) → is_base_step s ≡ true → P s) → (s : Step) → P s
by_step P load raise base (Load w x) = load w x
by_step P load raise base (Raise l won) = raise l won
by_step P load raise base (Store w x) = base (Store w x) refl
by_step P load raise base (Or w bits found) = base (Or w bits found) refl
by_step P load raise base (And w bits found) = base (And w bits found) refl
by_step P load raise base (Flush line) = base (Flush line) refl
by_step P load raise base Drain = base Drain refl
by_step P load raise base (TakeWrite l won) = base (TakeWrite l won) refl
by_step P load raise base (TakeRead l won) = base (TakeRead l won) refl
by_step P load raise base (Give l) = base (Give l) refl
by_step P load raise base (ZoneTry zone won) = base (ZoneTry zone won) refl
by_step P load raise base (ZoneGive zone) = base (ZoneGive zone) refl
by_step P load raise base (Occupied at found) = base (Occupied at found) refl
by_step P load raise base (Occupy at bits won) = base (Occupy at bits won) refl
by_step P load raise base (Vacate at bits) = base (Vacate at bits) refl
by_step P load raise base (Draw n) = base (Draw n) refl
by_step P load raise base (NumberSeen n) = base (NumberSeen n) refl
by_step P load raise base (StopSeen set) = base (StopSeen set) refl
by_step P load raise base SetStop = base SetStop refl
by_step P load raise base (Tell operation reply) = base (Tell operation reply) refl

-- ---- A RELATION OF THE CLAIMS BEFORE AND AFTER that each claim keeps, so does each step
module _ (R : List Claim → List Claim → Type 0) (same : (t : List Claim) → R t t)
    (then_ : (a b c : List Claim) → R a b → R b c → R a c)
    (base : (e : Claim) (t : List Claim) → is_base e ≡ true → R t (e ∷ t)) where
  marks_by : (part : Part) (x : ℕ) (t : List Claim) → R t (marked_by Open part x t)
  marks_by GenerationPart x t = same t
  marks_by SealPart x t = same t
  marks_by EntryPart x t = same t
  marks_by SlotPart x t = same t
  marks_by RootPart x t = same t
  marks_by (DescriptorPart c) x t = base (Marked c (x / 256)) t refl
  marks_by (ChunkPart c i) x t = same t
  marks_by OtherPart x t = same t

  marks_idle : (part : Part) (x : ℕ) (t : List Claim) → R t (marked_by Idle part x t)
  marks_idle GenerationPart x t = same t
  marks_idle SealPart x t = same t
  marks_idle EntryPart x t = same t
  marks_idle SlotPart x t = same t
  marks_idle RootPart x t = same t
  marks_idle (DescriptorPart c) x t = base (Marked c (x / 256)) t refl
  marks_idle (ChunkPart c i) x t = same t
  marks_idle OtherPart x t = same t

  marks : (ph : Phase) (part : Part) (x : ℕ) (t : List Claim) → R t (marked_by ph part x t)
  marks Idle part x t = marks_idle part x t
  marks Open part x t = marks_by part x t
  marks (Drawn n) part x t = same t
  marks (Sealing n) part x t = same t
  marks (Applying todo) part x t = same t
  marks Clearing part x t = same t
  marks (Retiring n) part x t = same t
  marks Voiding part x t = same t

  decides : (ph : Phase) (es : List Entry) (t : List Claim) → R t (decided_by ph es t)
  decides Idle es t = same t
  decides Open es t = same t
  decides (Drawn n) es t = same t
  decides (Sealing n) es t = base (Decided (redos es)) t refl
  decides (Applying todo) es t = same t
  decides Clearing es t = same t
  decides (Retiring n) es t = same t
  decides Voiding es t = same t

  drains : (left : List Undrained) (log : Log) (t : List Claim)
      → R t (claims_drained left log (Drained left ∷ t))
  drains [] log t = then_ t (Drained [] ∷ t) (decided_by log.phase log.entries (Drained [] ∷ t))
      (base (Drained []) t refl) (decides log.phase log.entries (Drained [] ∷ t))
  drains (u ∷ left) log t = base (Drained (u ∷ left)) t refl

  begins : (ph : Phase) (v : View) → R v.claims (begun ph v).claims
  begins Idle v = same v.claims
  begins Open v = same v.claims
  begins (Drawn n) v = same v.claims
  begins (Sealing n) v = same v.claims
  begins (Applying todo) v = same v.claims
  begins Clearing v = same v.claims
  begins (Retiring n) v = same v.claims
  begins Voiding v = same v.claims

  goes : (v : View) (s : Step) → is_base_step s ≡ true → R v.claims (after v s).claims
  goes v (Load w x) e = absurd (both_ways false refl e)
  goes v (Store w x) e = let t = marked_by v.log.phase (part_in v w) x v.claims in
      then_ v.claims t (Knows w x ∷ t) (marks v.log.phase (part_in v w) x v.claims)
      (base (Knows w x) t refl)
  goes v (Or w bits found) e = base (Knows w (bit_or found bits)) v.claims refl
  goes v (And w bits found) e = base (Knows w (bit_and found bits)) v.claims refl
  goes v (Flush line) e = same v.claims
  goes v Drain e = drains (drained v.changes) v.log v.claims
  goes v (TakeWrite line true) e = base (Took line true) v.claims refl
  goes v (TakeWrite line false) e = same v.claims
  goes v (TakeRead line true) e = base (Took line false) v.claims refl
  goes v (TakeRead line false) e = same v.claims
  goes v (Raise line won) e = absurd (both_ways false refl e)
  goes v (Give line) e = base (Gave line) v.claims refl
  goes v (ZoneTry zone won) e = same v.claims
  goes v (ZoneGive zone) e = same v.claims
  goes v (Occupied at found) e = same v.claims
  goes v (Occupy at bits true) e = base (Reserved at bits) v.claims refl
  goes v (Occupy at bits false) e = same v.claims
  goes v (Vacate at bits) e = base (Released at bits) v.claims refl
  goes v (Draw n) e = same v.claims
  goes v (NumberSeen n) e = begins v.log.phase v
  goes v (StopSeen set) e = same v.claims
  goes v SetStop e = same v.claims
  goes v (Tell operation reply) e = same v.claims

  module _ (shown : (c x : ℕ) (t : List Claim)
      → R t (SawDescriptor c x ∷ t) × R t (SawBitmap c x ∷ t)) where
    saw : (part : Part) (x : ℕ) (t : List Claim) → R t (seen_by part x t)
    saw GenerationPart x t = same t
    saw SealPart x t = same t
    saw EntryPart x t = same t
    saw SlotPart x t = same t
    saw RootPart x t = same t
    saw (DescriptorPart c) x t = (shown c x t).0
    saw (ChunkPart c zero) x t = (shown c x t).1
    saw (ChunkPart c (suc i)) x t = same t
    saw OtherPart x t = same t

    learns : (ph : Phase) (part : Part) (w x : ℕ) (t : List Claim) → R t (learned ph part w x t)
    learns Idle part w x t = let u = seen_by part x t in
        then_ t u (Knows w x ∷ u) (saw part x t) (base (Knows w x) u refl)
    learns Open part w x t = let u = seen_by part x t in
        then_ t u (Knows w x ∷ u) (saw part x t) (base (Knows w x) u refl)
    learns (Drawn n) part w x t = same t
    learns (Sealing n) part w x t = same t
    learns (Applying todo) part w x t = same t
    learns Clearing part w x t = same t
    learns (Retiring n) part w x t = same t
    learns Voiding part w x t = same t

-- ---- A COUNT THAT NO CLAIM LOWERS, no step lowers
abbrev pub Rising : (List Claim → ℕ) → Type 0
Rising f = (e : Claim) (t : List Claim) → f t ≤ f (e ∷ t)

pub rising_locked : (l : ℕ) → Rising (times_locked l)
rising_locked l (Took m w) t = omega arith
rising_locked l (Raised m) t = omega arith
rising_locked l (Gave m) t = omega arith
rising_locked l (SawDescriptor c x) t = omega arith
rising_locked l (SawBitmap c x) t = omega arith
rising_locked l (Reserved at bits) t = omega arith
rising_locked l (Released at bits) t = omega arith
rising_locked l (Marked c x) t = omega arith
rising_locked l (Drained left) t = omega arith
rising_locked l (Decided es) t = omega arith
rising_locked l (Knows w x) t = omega arith

pub rising_missed : (sh : Shape) (B : Block) → Rising (times_missed sh B)
rising_missed sh B (Took m w) t = omega arith
rising_missed sh B (Raised m) t = omega arith
rising_missed sh B (Gave m) t = omega arith
rising_missed sh B (SawDescriptor c x) t = omega arith
rising_missed sh B (SawBitmap c x) t = omega arith
rising_missed sh B (Reserved at bits) t = omega arith
rising_missed sh B (Released at bits) t = omega arith
rising_missed sh B (Marked c x) t = omega arith
rising_missed sh B (Drained left) t = omega arith
rising_missed sh B (Decided es) t = omega arith
rising_missed sh B (Knows w x) t = omega arith

pub rising_got : (zone : ℕ) → Rising (chunks_got zone)
rising_got zone (Took m w) t = omega arith
rising_got zone (Raised m) t = omega arith
rising_got zone (Gave m) t = omega arith
rising_got zone (SawDescriptor c x) t = omega arith
rising_got zone (SawBitmap c x) t = omega arith
rising_got zone (Reserved at bits) t = omega arith
rising_got zone (Released at bits) t = omega arith
rising_got zone (Marked c x) t = omega arith
rising_got zone (Drained left) t = omega arith
rising_got zone (Decided es) t = omega arith
rising_got zone (Knows w x) t = omega arith

module _ (f : List Claim → ℕ) (r : Rising f) where
  abbrev NoLess : List Claim → List Claim → Type 0
  NoLess t t' = f t ≤ f t'

  no_less : (t : List Claim) → NoLess t t
  no_less t = omega arith

  no_less_then : (a b c : List Claim) → NoLess a b → NoLess b c → NoLess a c
  no_less_then a b c d e = omega arith

  pub grows : (v : View) (s : Step) → f v.claims ≤ f (after v s).claims
  grows v s = by_step (λ s. NoLess v.claims (after v s).claims)
      (λ w x. learns NoLess no_less no_less_then (λ e t _. r e t)
      (λ c x t. (r (SawDescriptor c x) t, r (SawBitmap c x) t)) v.log.phase
      (part_in v w) w x v.claims)
      raise (goes NoLess no_less no_less_then (λ e t _. r e t) v) s
    where
      raise : (l : ℕ) (won : Bool) → NoLess v.claims (after v (Raise l won)).claims
      raise l true = r (Raised l) v.claims
      raise l false = no_less v.claims

-- ---- A LOCK THAT IS HELD was held before, or the line's lock was taken
module _ (l : ℕ) where
  abbrev Held : List Claim → List Claim → Type 0
  Held t t' = (times_locked l t ≤ times_locked l t')
      × (holds t' l ≡ true → (holds t l ≡ true) ⊎ (times_locked l t < times_locked l t'))

  held_same : (t : List Claim) → Held t t
  held_same t = (omega arith, λ h. inl h)

  held_then : (a b c : List Claim) → Held a b → Held b c → Held a c
  held_then a b c d e = let m = d.0 in let n = e.0 in (
    omega arith,
    λ h. ⊎_elim (λ (q : holds b l ≡ true). ⊎_elim (λ (y : holds a l ≡ true). inl y)
        (λ (y : times_locked l a < times_locked l b). inr (omega arith)) (d.1 q))
        (λ (q : times_locked l b < times_locked l c). inr (omega arith)) (e.1 h),
  )

  took : (w s : Bool) (a b : Bool) → (((w && s) || a) || ((not w && s) || b)) ≡ true
      → ((a || b) ≡ true) ⊎ (s ≡ true)
  took w true a b h = inr refl
  took true false a b h = inl h
  took false false a b h = inl h

  gave : (s a b : Bool) → ((not s && a) || (not s && b)) ≡ true → (a || b) ≡ true
  gave true a b h = absurd (both_ways false refl h)
  gave false a b h = h

  abbrev one : Bool → ℕ
  one t = cond t 1 0

  one_more : (t : List Claim) (m : ℕ) (w : Bool) → (m == l) ≡ true
      → times_locked l t < times_locked l (Took m w ∷ t)
  one_more t m w e = let q : one (m == l) ≡ 1 = ap one e in omega arith

  held_base : (e : Claim) (t : List Claim) → is_base e ≡ true → Held t (e ∷ t)
  held_base (Took m w) t b = (
    rising_locked l (Took m w) t,
    λ h. ⊎_elim
        (λ (y : holds t l ≡ true). inl y) (λ (y : (m == l) ≡ true). inr (one_more t m w y))
        (took w (m == l) (locked t l) (reads t l) h),
  )
  held_base (Raised m) t b = absurd (both_ways false refl b)
  held_base (Gave m) t b = (omega arith, λ h. inl (gave (m == l) (locked t l) (reads t l) h))
  held_base (SawDescriptor c x) t b = absurd (both_ways false refl b)
  held_base (SawBitmap c x) t b = absurd (both_ways false refl b)
  held_base (Reserved at bits) t b = held_same t
  held_base (Released at bits) t b = held_same t
  held_base (Marked c x) t b = held_same t
  held_base (Drained left) t b = held_same t
  held_base (Decided es) t b = held_same t
  held_base (Knows w x) t b = held_same t

  pub held_before : (v : View) (s : Step)
      → ((m : ℕ) (won : Bool) → s ≡ Raise m won → reads v.claims m ≡ true)
      → Held v.claims (after v s).claims
  held_before v s = by_step (λ s. ((m : ℕ) (won : Bool) → s ≡ Raise m won
      → reads v.claims m ≡ true) → Held v.claims (after v s).claims)
      (λ w x _. learns Held held_same held_then held_base
      (λ c x t. (held_same t, held_same t)) v.log.phase (part_in v w) w x v.claims)
      raise (λ s b _. goes Held held_same held_then held_base v s b) s
    where
      raised : (m : ℕ) (s a b : Bool) → (s ≡ true → b ≡ true) → ((s || a) || (not s && b)) ≡ true
          → (a || b) ≡ true
      raised m true a b u h = or_right a b (u refl)
      raised m false a b u h = h

      raise : (m : ℕ) (won : Bool) → ((n : ℕ) (w : Bool) → Raise m won ≡ Raise n w
          → reads v.claims n ≡ true) → Held v.claims (after v (Raise m won)).claims
      raise m true u = (
        omega arith,
        λ h.
            inl (raised m (m == l) (locked v.claims l) (reads v.claims l)
            (λ e. Rattle.std.proofs.Common.subst
            (λ n. reads v.claims n ≡ true) (Rattle.std.proofs.lemmas.Bool.eqb-true m l e)
            (u m true refl)) h),
      )
      raise m false u = held_same v.claims

-- ---- NO STEP BUT A LOAD MISSES A BLOCK
module _ (sh : Shape) (B : Block) where
  abbrev AsMissed : List Claim → List Claim → Type 0
  AsMissed t t' = times_missed sh B t' ≡ times_missed sh B t

  missed_base : (e : Claim) (t : List Claim) → is_base e ≡ true → AsMissed t (e ∷ t)
  missed_base (Took m w) t b = refl
  missed_base (Raised m) t b = refl
  missed_base (Gave m) t b = refl
  missed_base (SawDescriptor c x) t b = absurd (both_ways false refl b)
  missed_base (SawBitmap c x) t b = absurd (both_ways false refl b)
  missed_base (Reserved at bits) t b = refl
  missed_base (Released at bits) t b = refl
  missed_base (Marked c x) t b = refl
  missed_base (Drained left) t b = refl
  missed_base (Decided es) t b = refl
  missed_base (Knows w x) t b = refl

  -- by cases of a step: it is a load, or the block is missed as often
  pub missed_by : (v : View) (P : Step → Type 0) → ((w x : ℕ) → P (Load w x))
      → ((s : Step) → times_missed sh B (after v s).claims ≡ times_missed sh B v.claims → P s)
      → (s : Step) → P s
  missed_by v P load other s = by_step P load raise
      (λ s b. other s (goes AsMissed (λ t. refl) (λ x y z d e. e ∙ d) missed_base v s b)) s
    where
      raise : (l : ℕ) (won : Bool) → P (Raise l won)
      raise l true = other (Raise l true) refl
      raise l false = other (Raise l false) refl
