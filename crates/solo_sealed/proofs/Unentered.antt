-- Which words the entries are of, and what they make of the others and of the lane's generation.
use Rattle.std.proofs.Common.{◌≡◌, ◌≢◌, ℕ, ◌+◌, ◌*◌, ◌<◌, ◌≤◌, ⊎_elim, false, eqb, All, [], ◌∷◌, length, refl, sym, ap, ◌∙◌, subst, arith, eq-eqb, get_or}
use Rattle.std.proofs.lemmas.Bool.{cond-true, false_from_ne_true}
use Rattle.std.proofs.lemmas.Option.{slice_get-get_or}
use Rattle.solo_view.specs.Area.{area_word}
use Rattle.solo_view.specs.Bits.{all_bits, with_bits}
use Rattle.solo_view.specs.Log.{Final}
use Rattle.solo_view.specs.View.{View}
use Rattle.solo_world.specs.Entries.{ends_with, is_entered}
use Rattle.solo_world.specs.History.{made_final}
use Rattle.solo_world.specs.Records.{generation_of}
use Rattle.solo_world.proofs.CrashLogs.{entry_of_word}
use Rattle.solo_world.proofs.Differences.{with_all_bits}
use Rattle.solo_world.proofs.MadeBits.{IsMasked, masked_by}
use Rattle.solo_world.proofs.Replays.{made_final-append, made_final-other}
use Rattle.solo_sealed.specs.Sealed.{IsOfPool, MaySeal}
use Rattle.solo_sealed.proofs.Stages.{entries}
use Rattle.solo_sealed.proofs.Steps.{entry_kind}

module _ (b : View) (may_seal : MaySeal b) where
  -- a word of a lane's area has no entry, but for the lane's generation
  pub unentered : (lane u : ℕ) → lane < b.lanes → area_word lane ≤ u → u < area_word lane + 1024 → u ≢ area_word b.lane → is_entered (entries b) u ≡ false
  unentered lane u inside low high other = false_from_ne_true (is_entered (entries b) u) (λ e.
      let t = entry_of_word (entries b) u e in
      let is = t.of in
      ⊎_elim
      (λ (of : IsOfPool b t.held). absurd (⊎_elim (λ (front : t.held.word < 512). omega (arith, front, is, low)) (λ (behind : 512 + 1024 * b.lanes ≤ t.held.word). omega (arith, behind, is, high, inside)) of.outside))
      (λ (last : (t.place ≡ length may_seal.front) × (ends_with b (generation_of b + 1) ≡ t.held)). other (sym is ∙ sym (ap (λ (f : Final). f.word) last.1)))
      (entry_kind b may_seal t.place t.held t.at))

  -- so the entries leave it
  pub unmade : (lane u x : ℕ) → lane < b.lanes → area_word lane ≤ u → u < area_word lane + 1024 → u ≢ area_word b.lane → made_final (entries b) u x ≡ x
  unmade lane u x inside low high other = made_final-other (entries b) u x (unentered lane u inside low high other)

  -- the generation becomes the next one
  pub made_generation : (x : ℕ) → made_final (entries b) (area_word b.lane) x ≡ generation_of b + 1
  unfolding made_final
  made_generation x =
      let last : Final = ends_with b (generation_of b + 1) in
      let y : ℕ = made_final may_seal.front (area_word b.lane) x in
      ap (λ fs. made_final fs (area_word b.lane) x) may_seal.ends
      ∙ (made_final-append may_seal.front (last ∷ []) (area_word b.lane) x
      ∙ (cond-true (eqb (area_word b.lane) (area_word b.lane)) (with_bits all_bits (generation_of b + 1) y) y (eq-eqb (area_word b.lane) (area_word b.lane) refl) ∙ with_all_bits y (generation_of b + 1)))

  -- each entry is of the bits of its mask
  pub masked : All IsMasked (entries b)
  masked n d low =
      let f : Final = get_or (entries b) n d in
      let s = may_seal.spelled n f (slice_get-get_or (entries b) n d low) in
      subst IsMasked (sym s.is) (masked_by s.op f.word s.value s.word)
