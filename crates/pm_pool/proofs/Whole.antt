-- The header page, the generations and the root's block make the created pool.
use Rattle.std.proofs.Common.{◌≡◌, ◌≢◌, ℕ, ◌-◌, ◌*◌, ◌/◌, ◌%◌, ◌<◌, ◌≤◌, List, length, slice_index, replicate, cond, ltb, inl, inr, sym, ◌∙◌, ap, arith}
use Rattle.std.proofs.lemmas.Bool.{cases_eq, cases_lt}
use Rattle.std.proofs.lemmas.Bool.Decides.{nat_tests}
use Rattle.std.proofs.lemmas.List.{get_or-replicate, get_or_past, length-replicate}
use Rattle.std.proofs.lemmas.List.FromFn.{fill_by_all}
use Rattle.pm_layout.specs.Layout.{lane_place, zone_place, pool_size}
use Rattle.pm_pool.specs.Created.{Wanted, header_page, lane_word, zone_word, created_word, created}

first_region : (p a b x y z : ℕ) → p < a → cond (ltb p a) x (cond (ltb p b) y z) ≡ x
first_region p a b x y z h = grind (arith, nat_tests)

middle_region : (p a b x y z : ℕ) → a ≤ p → p < b → cond (ltb p a) x (cond (ltb p b) y z) ≡ y
middle_region p a b x y z h k = grind (arith, nat_tests)

last_region : (p a b x y z : ℕ) → a ≤ p → b ≤ p → cond (ltb p a) x (cond (ltb p b) y z) ≡ z
last_region p a b x y z h k = grind (arith, nat_tests)

page_part : (w : Wanted) (i : ℕ) → i < 512 → created_word w (8 * i) ≡ slice_index (header_page w) i
unfolding created_word
page_part w i h =
    let same : 8 * i / 8 ≡ i = omega arith in
    first_region (8 * i) 4096 (zone_place w.lanes 0) _ _ _ (omega arith) ∙ ap (slice_index (header_page w)) same

in_lanes : (w : Wanted) (i : ℕ) → 512 ≤ i → 8 * i < zone_place w.lanes 0 → created_word w (8 * i) ≡ lane_word ((8 * i - 4096) % 8192)
unfolding created_word
in_lanes w i behind before = middle_region (8 * i) 4096 (zone_place w.lanes 0) _ _ _ (omega arith) before

generation_here : (at : ℕ) → at ≡ 0 → lane_word at ≡ 1
generation_here at here = grind (arith, nat_tests)

log_empty : (at : ℕ) → at ≢ 0 → lane_word at ≡ 0
log_empty at other = grind (arith, nat_tests)

zone_part : (w : Wanted) (i : ℕ) → zone_place w.lanes 0 ≤ 8 * i → created_word w (8 * i) ≡ zone_word w.root (8 * i - zone_place w.lanes 0)
unfolding created_word
zone_part w i behind = last_region (8 * i) 4096 (zone_place w.lanes 0) _ _ _ (omega arith) behind

-- the parts as the functions that put them say them
pub record Parts (w : Wanted) (start page paged generated rooted : List ℕ) : Type 0 where
  pub page_is : page ≡ header_page w
  pub zero : (i : ℕ) → slice_index start i ≡ 0
  pub long : length rooted ≡ pool_size w.lanes w.zones / 8
  pub page_put : (i : ℕ) → i < 512 → slice_index paged i ≡ slice_index page i
  pub page_only : (i : ℕ) → 512 ≤ i → slice_index paged i ≡ slice_index start i
  pub generations_put : (lane : ℕ) → lane < w.lanes → slice_index generated (lane_place lane / 8) ≡ 1
  pub generations_only : (i : ℕ) → ((lane : ℕ) → lane < w.lanes → i ≢ lane_place lane / 8) → slice_index generated i ≡ slice_index paged i
  pub root_only : (i : ℕ) → 8 * i < zone_place w.lanes 0 → slice_index rooted i ≡ slice_index generated i
  pub root_put : (i : ℕ) → zone_place w.lanes 0 ≤ 8 * i → slice_index rooted i ≡ zone_word w.root (8 * i - zone_place w.lanes 0)

lane_by_lane : (w : Wanted) (start page paged generated rooted : List ℕ) → Parts w start page paged generated rooted → (i : ℕ) → 512 ≤ i → 8 * i < zone_place w.lanes 0
    → slice_index generated i ≡ created_word w (8 * i)
lane_by_lane w start page paged generated rooted parts i behind before =
    elim (cases_eq ((8 * i - 4096) % 8192) 0) [
      | inl here ↦
          let lane : ℕ = (8 * i - 4096) / 8192 in
          let at : i ≡ lane_place lane / 8 = omega arith in
          ap (slice_index generated) at ∙ parts.generations_put lane (omega arith) ∙ sym (in_lanes w i behind before ∙ generation_here ((8 * i - 4096) % 8192) here)
      | inr other ↦
          parts.generations_only i (λ lane inside at. other (omega arith)) ∙ parts.page_only i behind ∙ parts.zero i
          ∙ sym (in_lanes w i behind before ∙ log_empty ((8 * i - 4096) % 8192) other)
    ]

word_by_word : (w : Wanted) (start page paged generated rooted : List ℕ) → Parts w start page paged generated rooted → (i : ℕ) → slice_index rooted i ≡ created_word w (8 * i)
word_by_word w start page paged generated rooted parts i =
    elim (cases_lt (8 * i) (zone_place w.lanes 0)) [
      | inl before ↦ parts.root_only i before ∙ elim (cases_lt i 512) [
        | inl in_page ↦ parts.generations_only i (λ lane inside at. absurd (omega arith)) ∙ parts.page_put i in_page ∙ ap (λ (p : List ℕ). slice_index p i) parts.page_is ∙ sym (page_part w i in_page)
        | inr behind ↦ lane_by_lane w start page paged generated rooted parts i behind before
      ]
      | inr behind ↦ parts.root_put i behind ∙ sym (zone_part w i behind)
    ]

pub created_whole : (w : Wanted) (start page paged generated rooted : List ℕ) → Parts w start page paged generated rooted → rooted ≡ created w
created_whole w start page paged generated rooted parts =
    fill_by_all (λ i. created_word w (8 * i)) rooted (pool_size w.lanes w.zones / 8) 0 parts.long (λ i h. word_by_word w start page paged generated rooted parts i)

pub replicate_zero : (n i : ℕ) → slice_index (replicate n 0) i ≡ 0
replicate_zero n i = elim (cases_lt i n) [
  | inl inside ↦ get_or-replicate n i 0 0 inside
  | inr past ↦ get_or_past (replicate n 0) i 0 (omega (arith, length-replicate {A = ℕ} n 0))
]
