-- The header's page, but for the root word: no lane has a change of it, and recovery leaves it.
use Rattle.std.proofs.Common.{◌≡◌, ◌≢◌, ⊎_elim, inl, ℕ, ◌+◌, ◌*◌, ◌/◌, ◌%◌, ◌<◌, ◌≤◌, nat_le, nat_lt}
use Rattle.std.proofs.Common.{true, false, not, ◌&&◌, ◌==◌, leb, ltb, length, slice_index}
use Rattle.std.proofs.Common.{refl, sym, ap, ◌∙◌, subst, arith, eq-eqb, ne_eqb}
use Rattle.std.proofs.lemmas.Bool.{and_parts, both_ways, cond-false, false_from_ne_true}
use Rattle.std.proofs.lemmas.Bool.{leb-true, ltb-true, not-true}
use Rattle.pm_layout.specs.Areas.{line_of_slot, redo_entries, undo_slots, word_of_entry}
use Rattle.pm_layout.specs.Areas.{word_of_generation, word_of_seal}
use Rattle.pm_layout.specs.Chunks.{is_chunk_page, is_descriptor_word, is_in_zone, page_in_zone}
use Rattle.pm_layout.specs.Chunks.{page_of_zone, word_of_root, words_of}
use Rattle.pm_layout.specs.declared.shape.Shape.{Shape}
use Rattle.pm_view.specs.Parts.{OtherPart, is_entry_word, is_slot_word, part_of}
use Rattle.pm_view.specs.View.{View}
use Rattle.pm_world.specs.Logs.{AreaChange}
use Rattle.pm_world.specs.Memory.{PoolWord}
use Rattle.pm_world.specs.Runs.{Moment}
use Rattle.pm_world.specs.World.{Opening, is_header}
use Rattle.pm_world.proofs.SurvivingWords.{Taken, no_other, whole_left}
use Rattle.pm_recover.proofs.Meaning.{page_stands}
use Rattle.pm_recover.proofs.Sound.{header_if_meaning, sound_if_meaning}
use Rattle.pm_shared.specs.Closings.{Closes}
use Rattle.pm_shared.specs.declared.rule.Beginning.{Beginning}
use Rattle.pm_shared.specs.Openings.{opening_of}
use Rattle.pm_lanes.specs.Closed.{HeadersAreKept, MaySurvive}
use Rattle.pm_lanes.specs.Opens.{IsOpened}

-- a word of the page, but for the root's, is none of a lane's
header_part : (sh : Shape) (k w : ℕ) → w < 512 → w ≢ word_of_root sh → part_of sh k w ≡ OtherPart
header_part sh k w low other =
    let no_zone : is_in_zone sh (w / 512) ≡ false =
    false_from_ne_true (is_in_zone sh (w / 512)) (λ t. let z = leb-true (page_of_zone sh 0) (w / 512)
    (and_parts (leb (page_of_zone sh 0) (w / 512)) (ltb (w / 512) (page_of_zone sh sh.zones)) t).0 in
    omega (arith, z, low)) in
    cond-false (w == word_of_generation sh k) _ _
    (ne_eqb w (word_of_generation sh k) (λ q. omega (arith, q, low)))
    ∙ (cond-false (w == word_of_seal sh k) _ _
    (ne_eqb w (word_of_seal sh k) (λ q. omega (arith, q, low)))
    ∙ (cond-false (is_entry_word sh k w) _ _ (false_from_ne_true (is_entry_word sh k w) (λ t.
    let y = leb-true (word_of_entry sh k 0) w (and_parts (leb (word_of_entry sh k 0) w)
    (ltb w (word_of_entry sh k (redo_entries sh))) t).0 in omega (arith, y, low)))
    ∙ (cond-false (is_slot_word sh k w) _ _ (false_from_ne_true (is_slot_word sh k w) (λ t.
    let y = leb-true (8 * line_of_slot sh k 0) w (and_parts (leb (8 * line_of_slot sh k 0) w)
    (ltb w (8 * line_of_slot sh k (undo_slots sh))) t).0 in omega (arith, y, low)))
    ∙ (cond-false (w == word_of_root sh) _ _ (ne_eqb w (word_of_root sh) other)
    ∙ (cond-false (is_descriptor_word sh w) _ _
    (ap (λ t. t && (page_in_zone sh (w / 512) == 0) && nat_lt (w % 512) 64) no_zone)
    ∙ cond-false (is_chunk_page sh (w / 512)) _ _
    (ap (λ t. t && nat_le 1 (page_in_zone sh (w / 512))) no_zone))))))

pub kept : HeadersAreKept
kept before layout words image b back opened closed survives w is =
    let t = and_parts (nat_lt w 512) (not (w == word_of_root b.shape)) is in
    let low : w < 512 = ltb-true w 512 t.0 in
    let other : w ≢ word_of_root b.shape = λ q. both_ways (w == word_of_root b.shape)
    (not-true (w == word_of_root b.shape) t.1) (eq-eqb w (word_of_root b.shape) q) in
    let o : Opening = opening_of b in
    let last : Moment = closed.last in
    let inside : w < words_of b.shape = omega (arith, low) in
    let in_memory : slice_index image w ≡ last.mem (PoolWord w) =
    ⊎_elim (λ e. e) (λ (x : Taken o last.mem last.views last.past closed.world image survives w).
    let v : View = last.views x.lane in
    let entries : ℕ = length v.log.entries in
    absurd (no_other v.log.phase entries v.log.generation x.seen
    (subst (λ p. AreaChange v.log.phase entries v.log.generation p x.seen)
    (header_part b.shape x.lane w low other) x.is)))
    (whole_left o last.mem last.views last.past closed.world image survives w inside) in
    in_memory ∙ (closed.world.header w is
    ∙ (opened.recovered.words w (inl (omega (arith, low)))
    ∙ page_stands before opened.pool.lanes w (sound_if_meaning before opened.pool opened.means)
    (header_if_meaning before opened.pool opened.means) low other))
