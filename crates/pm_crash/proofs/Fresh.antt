-- FRESHNESS: a lane's numbers rise, and the root that it sees is that after the calls drawn so far.
use Rattle.std.proofs.Common.{◌≡◌, ◌≢◌, inl, ⊎_elim, ℕ, zero, suc, ◌<◌, ◌≤◌, ◌==◌, ◌&&◌, not, Bool, true, false, List, ◌∷◌, Some, refl, sym, ap, ◌∙◌, subst, arith}
use Rattle.std.specs.Option.{option_map}
use Rattle.std.specs.List.{All}
use Rattle.std.specs.Int.{bit_at}
use Rattle.std.proofs.lemmas.Bool.{both_ways, cases_Bool, cases_eq, cond-false, cond-true, false_from_ne_true, or_right}
use Rattle.std.proofs.lemmas.List.Elements.{All-cons, All-nil}
use Rattle.std.proofs.lemmas.Nat.Bits.{bit_at-lt, same_from_bits}
use Rattle.pm_layout.specs.Chunks.{word_of_root}
use Rattle.pm_objects.specs.declared.pool.PoolView.{PoolView}
use Rattle.pm_view.specs.Claims.{holds}
use Rattle.pm_view.specs.Log.{Phase, Idle, Open, Drawn, Sealing, Applying, Clearing, Retiring, Voiding, is_early}
use Rattle.pm_view.specs.Places.{Place, RootWord}
use Rattle.pm_view.specs.View.{View, Numbered, entry_drawn}
use Rattle.pm_view.specs.Views.{value_in}
use Rattle.pm_world.specs.States.{State, diff, given, over}
use Rattle.pm_world.specs.Sights.{call_in, sight_of}
use Rattle.pm_world.specs.Lanes.{Flies, SightFits, is_decided, left, owns, sees}
use Rattle.pm_world.specs.Memory.{Memory, PoolWord, bit, cells_of}
use Rattle.pm_world.specs.World.{Opening, Views, Past, World, ghost_of, numbered_by, origin, settled_words}
use Rattle.pm_world.proofs.Frame.{sees_apart}
use Rattle.pm_world.proofs.Replays.{replay_same}
use Rattle.pm_crash.specs.Footprints.{KeepsDecided, kept_bits}
use Rattle.pm_crash.specs.Freshness.{AreFalling, NumbersRise, RootIsFresh, root_told}
use Rattle.pm_crash.specs.Spelled.{number}
use Rattle.pm_crash.proofs.KeptBits as kept
use Rattle.pm_crash.proofs.Spelling.{number_is}

-- ---- NUMBERS

Falls : ℕ → List Numbered → Type 0
Falls n entries = AreFalling entries × All (λ (e : Numbered). e.number ≤ n) entries

falls : (lane : ℕ) (drew : ℕ → View) (n : ℕ) → Falls n (numbered_by lane drew n)
unfolding Falls
falls lane drew zero = (tt, All-nil (λ (e : Numbered). e.number ≤ 0))
falls lane drew (suc n) =
    let rest : List Numbered = numbered_by lane drew n in
    let e : Numbered = entry_drawn n (drew n) in
    let t = falls lane drew n in
    let wider : All (λ (f : Numbered). f.number ≤ suc n) rest = λ k d l. let z = t.1 k d l in omega arith in
    let below : All (λ (f : Numbered). f.number < suc n) rest = λ k d l. let z = t.1 k d l in omega arith in
    ⊎_elim
    (λ (q : ((drew n).fixed.lane == lane) ≡ true).
    subst (Falls (suc n)) (sym (cond-true ((drew n).fixed.lane == lane) (e ∷ rest) rest q))
    ((below, t.0), All-cons (λ (f : Numbered). f.number ≤ suc n) e rest (omega arith) wider))
    (λ (q : ((drew n).fixed.lane == lane) ≡ false).
    subst (Falls (suc n)) (sym (cond-false ((drew n).fixed.lane == lane) (e ∷ rest) rest q)) (t.0, wider))
    (cases_Bool ((drew n).fixed.lane == lane))

pub numbers : NumbersRise
unfolding Falls
numbers o mem views g x k ink = subst (Falls g.length) (sym (x.each_lane k ink).entries) (falls k g.drew g.length)

-- ---- THE ROOT

grounded : (keep : ℕ → Bool) (ph : Phase) → is_early ph ≡ true → kept.is_flight_kept keep ph ≡ false
grounded keep Idle e = refl
grounded keep Open e = refl
grounded keep (Drawn n) e = absurd (both_ways false refl e)
grounded keep (Sealing n) e = absurd (both_ways false refl e)
grounded keep (Applying todo) e = absurd (both_ways false refl e)
grounded keep Clearing e = absurd (both_ways false refl e)
grounded keep (Retiring n) e = absurd (both_ways false refl e)
grounded keep Voiding e = absurd (both_ways false refl e)

undecided : (ph : Phase) → is_early ph ≡ true → is_decided ph ≡ false
undecided Idle e = refl
undecided Open e = refl
undecided (Drawn n) e = absurd (both_ways false refl e)
undecided (Sealing n) e = absurd (both_ways false refl e)
undecided (Applying todo) e = absurd (both_ways false refl e)
undecided Clearing e = absurd (both_ways false refl e)
undecided (Retiring n) e = absurd (both_ways false refl e)
undecided Voiding e = absurd (both_ways false refl e)

unapplied : (ph : Phase) → is_early ph ≡ true → (p : Place) (b : ℕ) → given (left ph p b) ≡ false
unapplied Idle e p b = refl
unapplied Open e p b = refl
unapplied (Drawn n) e p b = absurd (both_ways false refl e)
unapplied (Sealing n) e p b = absurd (both_ways false refl e)
unapplied (Applying todo) e p b = absurd (both_ways false refl e)
unapplied Clearing e p b = absurd (both_ways false refl e)
unapplied (Retiring n) e p b = absurd (both_ways false refl e)
unapplied Voiding e p b = absurd (both_ways false refl e)

-- a test of a bit says which it is
bit_told : (m n : ℕ) → m < 2 → n < 2 → (m == 1) ≡ (n == 1) → m ≡ n
bit_told zero zero a b e = refl
bit_told zero (suc zero) a b e = absurd (both_ways false refl e)
bit_told (suc zero) zero a b e = absurd (both_ways true e refl)
bit_told (suc zero) (suc zero) a b e = refl
bit_told (suc (suc m)) n a b e = absurd (omega arith)
bit_told zero (suc (suc n)) a b e = absurd (omega arith)
bit_told (suc zero) (suc (suc n)) a b e = absurd (omega arith)

module _ (o : Opening) (mem : Memory) (views : Views) (g : Past) (w : World o mem views g) (k : ℕ) (ink : k < o.lanes)
    (early : is_early (views k).log.phase ≡ true) (held : holds (views k).claims 0 ≡ true)
    (x : ℕ) (saw : value_in (views k) (word_of_root o.shape) ≡ Some x) (keep : ℕ → Bool) (d : KeepsDecided g keep) where
  abbrev S : State
  S = settled_words o g

  fit : (j : ℕ) → SightFits o.shape (cells_of o.shape mem) (settled_words o g) (Flies (ghost_of g) j) (ghost_of g) j (sight_of (views j))
  fit j = w.bits.each_lane j

  seen : (b : ℕ) → sees g.geo S (sight_of (views k)).hold RootWord b ≡ true
  seen b = held

  others : (b j : ℕ) → j ≢ k → owns g.geo S (sight_of (views j)).hold RootWord b ≡ false
  others b j ne = sees_apart o.shape (cells_of o.shape mem) S (Flies (ghost_of g) k) (Flies (ghost_of g) j) (ghost_of g) w.bits.geo w.bits.alone
      k j (sight_of (views k)) (sight_of (views j)) (fit k) (fit j) (λ e. ne (sym e)) RootWord b (seen b)

  bare : (b : ℕ) → ((sight_of (views k)).logged RootWord && not (is_decided (views k).log.phase)) ≡ false
  bare b = false_from_ne_true ((sight_of (views k)).logged RootWord && not (is_decided (views k).log.phase))
      (λ t. both_ways false refl ((fit k).stored RootWord b (undecided (views k).log.phase early)
      (Rattle.std.proofs.lemmas.Bool.and_parts ((sight_of (views k)).logged RootWord) (not (is_decided (views k).log.phase)) t).0))

  in_memory : (b : ℕ) → bit (mem (PoolWord 64)) b ≡ S RootWord b
  in_memory b = ⊎_elim
      (λ (y : owns g.geo S (sight_of (views k)).hold RootWord b ≡ true).
      ((fit k).bits RootWord b y).0 refl (unapplied (views k).log.phase early RootWord b) (bare b))
      (λ (y : owns g.geo S (sight_of (views k)).hold RootWord b ≡ false). w.bits.unowned RootWord b (λ j. ⊎_elim
      (λ (q : j ≡ k). subst (λ i. owns g.geo S (sight_of (views i)).hold RootWord b ≡ false) (sym q) y)
      (λ (ne : j ≢ k). others b j ne) (cases_eq j k)) refl)
      (cases_Bool (owns g.geo S (sight_of (views k)).hold RootWord b))

  pictured : (b : ℕ) → bit (mem (PoolWord 64)) b ≡ bit x b
  pictured b = (fit k).picture RootWord b (seen b) (bit x b) (ap (option_map (λ n. bit n b)) saw)

  same_word : mem (PoolWord 64) ≡ x
  same_word = same_from_bits (mem (PoolWord 64)) x (λ b. bit_told (bit_at (mem (PoolWord 64)) b) (bit_at x b)
      (bit_at-lt (mem (PoolWord 64)) b) (bit_at-lt x b) (pictured b))

  kept_so : (b : ℕ) → kept_bits o g keep g.length RootWord b ≡ S RootWord b
  kept_so b = kept.kept_over o mem views g w keep d k RootWord b (λ j ne. others b j ne)
      ∙ cond-false (kept.is_flight_kept keep (views k).log.phase) (over (diff (sight_of (views k)).call RootWord b) (S RootWord b)) (S RootWord b)
      (grounded keep (views k).log.phase early)

  pub root_number : number (kept_bits o g keep g.length RootWord) ≡ x
  root_number = number_is (kept_bits o g keep g.length RootWord) (mem (PoolWord 64)) (w.small 64) (λ b l. kept_so b ∙ sym (in_memory b)) ∙ same_word

pub root : RootIsFresh
root o mem views g w k ink early held x saw later on keep d header pool r =
    let before : KeepsDecided g keep = λ n l e. let a = on.longer in d n (omega arith) (on.decided n e) in
    let same : (b : ℕ) → kept_bits o later keep g.length RootWord b ≡ kept_bits o g keep g.length RootWord b = λ b.
    replay_same keep keep (origin o) (ghost_of g).log (ghost_of later).log RootWord b g.length
    (λ m l. (ap (λ (v : View). diff (call_in v) RootWord b) (on.same m l), inl refl)) in
    let number_so : number (kept_bits o later keep g.length RootWord) ≡ x =
    ap number (λ i b. same b i) ∙ root_number o mem views g w k ink early held x saw keep before in
    ap (λ (p : PoolView). p.root) r.holds.is_pool ∙ ap root_told number_so
