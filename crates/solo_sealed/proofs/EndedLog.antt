-- At its end the log has made each word what its entries make of it, and every log is clean.
use Rattle.std.proofs.Common.{◌≡◌, ◌≢◌, ℕ, ◌+◌, ◌*◌, ◌<◌, ◌≤◌, ⊎_elim, List, [], slice_index, sym, ap, ◌∙◌, subst, arith}
use Rattle.std.proofs.lemmas.Bool.{cases_eq}
use Rattle.pm_record.specs.Undo.{undo_of}
use Rattle.solo_view.specs.Area.{area_word}
use Rattle.solo_view.specs.Founds.{IsAlone}
use Rattle.solo_view.specs.Log.Phase.{Idle}
use Rattle.solo_view.specs.Steps.{Step}
use Rattle.solo_view.specs.View.{View}
use Rattle.pm_image.specs.Logs.{slot_line, undo_slot}
use Rattle.solo_world.specs.History.{made_final}
use Rattle.solo_world.specs.Opens.{IsClean}
use Rattle.solo_world.specs.Records.{generation_of}
use Rattle.solo_world.proofs.CrashWords.{slot_same}
use Rattle.solo_sealed.specs.Sealed.{MaySeal, Publishes, pool_seen}
use Rattle.solo_sealed.proofs.Stages.{AtIdle, IsAtStage, Stage, seal_at}
use Rattle.solo_sealed.proofs.Steps.{at_along, at_first}
use Rattle.solo_sealed.proofs.Unentered.{made_generation, unmade}

module _ (b w : View) (steps : List Step) (may_seal : MaySeal b) (alone : IsAlone b) (publishes : Publishes b steps w) (ended : w.log.phase ≡ Idle) where
  at : IsAtStage b w
  at = at_along b may_seal b steps w (at_first b may_seal) alone publishes

  idle : AtIdle b w
  idle = subst (Stage b w) ended at.stage

  pub drained : w.changes ≡ []
  drained = idle.drained

  pub words : (i : ℕ) → slice_index w.words i ≡ made_final b.log.entries i (slice_index b.words i)
  words i = ⊎_elim
      (λ (here : i ≡ seal_at b).
      ap (slice_index w.words) here
      ∙ (idle.seal ∙ (sym may_seal.unsealed
      ∙ (sym (unmade b may_seal b.lane (seal_at b) (slice_index b.words (seal_at b)) may_seal.in_lanes (omega arith) (omega arith) (λ same. absurd (omega (arith, same)))) ∙ ap (λ u. made_final b.log.entries u (slice_index b.words u)) (sym here)))))
      (λ (other : i ≢ seal_at b). idle.words i other)
      (cases_eq i (seal_at b))

  -- a word of an area stays, but for the lane's generation
  area : (lane u : ℕ) → lane < b.lanes → area_word lane ≤ u → u < area_word lane + 1024 → u ≢ area_word b.lane → slice_index w.words u ≡ slice_index b.words u
  area lane u inside low high other = words u ∙ unmade b may_seal lane u (slice_index b.words u) inside low high other

  slot_stays : (lane slot : ℕ) → lane < b.lanes → slot < 64 → undo_slot w.words lane slot ≡ undo_slot b.words lane slot
  slot_stays lane slot inside low =
      let size = may_seal.size in let as_long = at.size in
      slot_same w.words b.words (8 * slot_line lane slot) (omega (arith, as_long, size, inside, low)) (omega (arith, size, inside, low))
      (λ i from to. area lane i inside (omega (arith, from, low)) (omega (arith, to, low)) (λ same. absurd (omega (arith, same, from, to, low))))

  generation_now : slice_index w.words (area_word b.lane) ≡ generation_of b + 1
  generation_now = words (area_word b.lane) ∙ made_generation b may_seal (slice_index b.words (area_word b.lane))

  own_clean : IsClean (pool_seen w) b.lane
  own_clean =
      let next = generation_now in let below = may_seal.below in record {
        unsealed = idle.seal;
        first_generation = omega (arith, next);
        last_generation = omega (arith, next, below);
        stale = λ slot u low there. let stale = may_seal.stale slot u low (ap undo_of (sym (slot_stays b.lane slot may_seal.in_lanes low)) ∙ there) in omega (arith, stale, next);
      }

  other_clean : (j : ℕ) → j < b.lanes → j ≢ b.lane → IsClean (pool_seen w) j
  other_clean j inside other =
      let was = may_seal.clean j inside other in
      let generation : slice_index w.words (area_word j) ≡ slice_index b.words (area_word j) = area j (area_word j) inside (omega arith) (omega arith) (λ same. other (omega (arith, same))) in record {
        unsealed = area j (area_word j + 1) inside (omega arith) (omega arith) (λ same. absurd (omega (arith, same))) ∙ was.unsealed;
        first_generation = let first = was.first_generation in omega (arith, generation, first);
        last_generation = let last = was.last_generation in omega (arith, generation, last);
        stale = λ slot u low there. let stale = was.stale slot u low (ap undo_of (sym (slot_stays j slot inside low)) ∙ there) in omega (arith, stale, generation);
      }

  pub clean : (j : ℕ) → j < b.lanes → IsClean (pool_seen w) j
  clean j inside = ⊎_elim (λ (same : j ≡ b.lane). subst (IsClean (pool_seen w)) (sym same) own_clean) (λ (other : j ≢ b.lane). other_clean j inside other) (cases_eq j b.lane)
