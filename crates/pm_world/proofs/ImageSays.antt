-- What each lane's log gives each place's bits in a crash image, by how far its call has come.
use Rattle.std.proofs.Common.{◌≡◌, ℕ, ◌+◌, ◌*◌, ◌<◌, ◌≤◌, ◌⊎◌, inl, inr, ⊎_elim, nat_lt, Bool, false, cond, not, ◌==◌, List, [], refl, sym, ap, ◌∙◌, subst, arith, eq-eqb, ne_eqb, Option, None, Some}
use Rattle.std.specs.Int.{bit_at}
use Rattle.std.specs.List.{find}
use Rattle.std.specs.Option.{option_map}
use Rattle.std.proofs.lemmas.Bool.{both_ways, cond-true, cond-false, lt-ltb, le-ltb}
use Rattle.pm_record.specs.declared.undo.Undo.{Undo}
use Rattle.pm_image.specs.Logs.{covers, old_word, records, entries, seal_word, generation_word}
use Rattle.pm_view.specs.Places.{Place, word_of}
use Rattle.pm_view.specs.Entries.{first_of_two, latest, redos}
use Rattle.pm_view.specs.Log.{Phase, Idle, Open, Drawn, Sealing, Applying, Clearing, Retiring, Voiding, Recorded, old_of}
use Rattle.pm_world.specs.States.{Diff, given, read}
use Rattle.pm_world.specs.Sights.{sight_of, is_logged}
use Rattle.pm_world.specs.Lanes.{is_decided}
use Rattle.pm_world.specs.Logs.{PhaseFits}
use Rattle.pm_world.specs.Memory.{Memory, bit, cells_of}
use Rattle.pm_world.specs.World.{Opening, Views, Past, World, settled_words, ghost_of}
use Rattle.pm_world.specs.Crash.{Survives, NoneTorn}
use Rattle.pm_world.proofs.Basics.{some_of}
use Rattle.pm_world.proofs.Crashes.{Restores, Redoes, IsSilent, IsPutBack, PhaseSays}
use Rattle.pm_world.proofs.RecoveredBits.{record_bit, entry_bit, log_bit}
use Rattle.pm_world.proofs.SurvivingWords.{log_fits}
use Rattle.pm_world.proofs.ImageLogs.{found_slot}
use Rattle.pm_world.proofs.LanesInImages.{IsBare, Silent, Sealed, Current, LaneCase, lane_case}
use Rattle.pm_world.proofs.EntriesAtPlaces.{entry_bits, log_stands, AllStand}
use Rattle.pm_world.proofs.RecordsAtPlaces.{restores, logged_record, old_given, some_or}

-- the image has the deciding store of the lane's call in flight: the seal, or the next generation
abbrev pub stands_in : List ℕ → ℕ → ℕ → Phase → Bool
stands_in image k before (Sealing n) = not (seal_word image k == 0)
stands_in image k before (Retiring n) = generation_word image k == before + 1
stands_in image k before phase = false

no_log : (rs : List Recorded) (sh : Rattle.pm_layout.specs.declared.shape.Shape.Shape) (lane : ℕ) (changes : List Rattle.pm_view.specs.Changes.Undrained) (p : Place) → rs ≡ [] → is_logged sh lane changes rs p ≡ false
no_log rs sh lane changes p e = ap (λ r. is_logged sh lane changes r p) e

module _ (o : Opening) (mem : Memory) (views : Views) (g : Past) (x : World o mem views g) (image : List ℕ) (sv : Survives o mem views image) (torn : NoneTorn o views image) where
  -- what lane k's log gives, of the pool's lanes
  abbrev pub spoken : ℕ → Diff
  spoken k p b = cond (nat_lt k o.shape.lanes) (log_bit image o.shape.lanes (word_of o.shape p) k b) None

  pub spoken_is : (k : ℕ) → k < o.shape.lanes → (p : Place) (b : ℕ) → spoken k p b ≡ log_bit image o.shape.lanes (word_of o.shape p) k b
  spoken_is k ink p b = cond-true (nat_lt k o.shape.lanes) _ _ (lt-ltb k o.shape.lanes ink)

  pub spoken_beyond : (k : ℕ) → o.shape.lanes ≤ k → IsSilent o.shape (spoken k)
  spoken_beyond k out p b i = cond-false (nat_lt k o.shape.lanes) _ _ (le-ltb k o.shape.lanes out)

  abbrev pub stands : ℕ → Bool
  stands k = stands_in image k (views k).log.generation (views k).log.phase

  module _ (k : ℕ) (ink : k < o.shape.lanes) where
    -- no record is valid
    pub bare_bit : IsBare o mem views g x image sv torn k ink → (w b : ℕ) → record_bit (records image k) w b ≡ None
    bare_bit bare w b = ⊎_elim (λ (n : find (λ r. covers r (8 * w)) (records image k) ≡ None). ap (option_map (λ r. bit (old_word r (8 * w)) b)) n)
        (λ (y : (u : Undo) × (find (λ r. covers r (8 * w)) (records image k) ≡ Some u)). absurd (let z = found_slot image k (8 * w) y.0 y.1 in bare.none_valid z.0 y.0 z.1 z.2)) (some_or (find (λ r. covers r (8 * w)) (records image k)))

    pub silent_bit : Silent o mem views g x image sv torn k ink → (p : Place) (b : ℕ) → spoken k p b ≡ None
    silent_bit s p b = spoken_is k ink p b ∙ (ap (λ es. first_of_two (entry_bit es (word_of o.shape p) b) (record_bit (records image k) (word_of o.shape p) b)) s.none_sealed ∙ bare_bit s.bare (word_of o.shape p) b)

    pub sealed_stand : Sealed o mem views g x image sv torn k ink → AllStand o.shape k ink (views k).log.entries
    sealed_stand s = log_stands o.shape k ink (views k).log s.whole (λ i e at. ((log_fits o mem views g x k ink).pairs i e at).3)

    pub sealed_redoes : Sealed o mem views g x image sv torn k ink → Redoes o.shape (sight_of (views k)) (spoken k)
    sealed_redoes s p b i h = spoken_is k ink p b ∙ (ap (first_of_two (entry_bit (entries image k) (word_of o.shape p) b)) (bare_bit s.bare (word_of o.shape p) b) ∙ (first_none (entry_bit (entries image k) (word_of o.shape p) b)
        ∙ (ap (λ es. entry_bit es (word_of o.shape p) b) s.all_sealed ∙ entry_bits o.shape k ink (views k).log.entries p b (sealed_stand s) i.0 h)))
      where
        first_none : (d : Option Bool) → first_of_two d None ≡ d
        first_none None = refl
        first_none (Some z) = refl

    current_restores : Current o mem views g x image sv torn k ink → is_decided (views k).log.phase ≡ false → Restores o.shape (settled_words o g) (ghost_of g) (sight_of (views k)) (spoken k)
    current_restores c und = restores o mem views g x image sv torn k ink c und (spoken k) (spoken_is k ink)

    phase_fits : (ph : Phase) → (views k).log.phase ≡ ph → PhaseFits o.shape k (sight_of (views k)).picture (views k).log (views k).changes ph
    phase_fits ph e = subst (PhaseFits o.shape k (sight_of (views k)).picture (views k).log (views k).changes) e (log_fits o mem views g x k ink).phase

    -- an aborted call has put back what is under its records
    put_back : (views k).log.phase ≡ Voiding → IsPutBack o.shape (read (cells_of o.shape mem).pool) (settled_words o g) (sight_of (views k))
    put_back e p b i lg = let z = logged_record (views k).fixed.shape (views k).fixed.lane (views k).changes (views k).log.records p 0 lg in let y = some_of (old_of (views k).log.records p) (old_given p (views k).log.records z.slot z.held z.at z.has_) in
        let olds = (log_fits o mem views g x k ink).olds p y.0 y.1 b in let f = x.bits.each_lane k in
        (f.bits p b olds.0).3 (bit_at y.0 b == 1) ((phase_fits Voiding e).3 p y.0 b y.1) ∙ sym (olds.1 (ap is_decided e))

    idle_restores : (views k).log.phase ≡ Idle → Silent o mem views g x image sv torn k ink → Restores o.shape (settled_words o g) (ghost_of g) (sight_of (views k)) (spoken k)
    idle_restores e s = record {
      all = λ p b i lg. absurd (both_ways ((sight_of (views k)).logged p) (no_log (views k).log.records (views k).fixed.shape (views k).fixed.lane (views k).changes p (phase_fits Idle e).0) lg);
      olds = λ p b i t. absurd (both_ways (given (spoken k p b)) (ap given (silent_bit s p b)) t);
    }

    abbrev Says : Bool → Phase → Type 0
    Says st ph = PhaseSays o.shape (read (cells_of o.shape mem).pool) (settled_words o g) (ghost_of g) (sight_of (views k)) (spoken k) st ph

    by_case : (ph : Phase) → (views k).log.phase ≡ ph → LaneCase o mem views g x image sv torn k ink ph → Says (stands_in image k (views k).log.generation ph) ph
    by_case Idle e s = idle_restores e s
    by_case Open e c = current_restores c (ap is_decided e)
    by_case (Drawn n) e c = current_restores c (ap is_decided e)
    by_case (Sealing n) e s = ⊎_elim (λ z. inl (sealed_redoes z.0, ap not (ne_eqb (seal_word image k) 0 z.1))) (λ z. inr (current_restores z.0 (ap is_decided e), ap not (eq-eqb (seal_word image k) 0 z.1))) s
    by_case (Applying t) e s = sealed_redoes s
    by_case Clearing e s = ⊎_elim (λ z. inl (sealed_redoes z)) (λ z. inr (λ p b i. silent_bit z p b)) s
    by_case (Retiring n) e s = ⊎_elim (λ z. inl (λ p b i h. silent_bit z.0 p b ∙ sym (ap (λ es. latest (redos es) p b) (phase_fits (Retiring n) e).0), eq-eqb (generation_word image k) ((views k).log.generation + 1) (let q = z.1 in omega arith)))
        (λ z. inr (current_restores z.0 (ap is_decided e), ne_eqb (generation_word image k) ((views k).log.generation + 1) (λ y. let q = z.1 in omega arith))) s
    by_case Voiding e s = ⊎_elim (λ z. inl (λ p b i. silent_bit z p b, put_back e)) (λ z. inr (current_restores z (ap is_decided e))) s

    pub lane_says : Says (stands k) (views k).log.phase
    lane_says = by_case (views k).log.phase refl (lane_case o mem views g x image sv torn k ink)

    -- one of three: silent, sealed, or with records
    abbrev pub ThreeCases : Type 0
    ThreeCases = Silent o mem views g x image sv torn k ink ⊎ (Sealed o mem views g x image sv torn k ink ⊎ (Current o mem views g x image sv torn k ink × (is_decided (views k).log.phase ≡ false)))

    three : (ph : Phase) → (views k).log.phase ≡ ph → LaneCase o mem views g x image sv torn k ink ph → ThreeCases
    three Idle e s = inl s
    three Open e c = inr (inr (c, ap is_decided e))
    three (Drawn n) e c = inr (inr (c, ap is_decided e))
    three (Sealing n) e s = ⊎_elim (λ z. inr (inl z.0)) (λ z. inr (inr (z.0, ap is_decided e))) s
    three (Applying t) e s = inr (inl s)
    three Clearing e s = ⊎_elim (λ z. inr (inl z)) (λ z. inl z) s
    three (Retiring n) e s = ⊎_elim (λ z. inl z.0) (λ z. inr (inr (z.0, ap is_decided e))) s
    three Voiding e s = ⊎_elim (λ z. inl z) (λ z. inr (inr (z, ap is_decided e))) s

    pub three_cases : ThreeCases
    three_cases = three (views k).log.phase refl (lane_case o mem views g x image sv torn k ink)
