-- What comes alive with a call was stored: the lines of each block that it allocates, as far as its object has them.
use Rattle.std.specs.Option.{option_map}
use Rattle.std.proofs.Common.{◌≡◌, ◌≢◌, ℕ, ◌+◌, ◌-◌, ◌*◌, ◌/◌, ◌%◌, ◌<◌, ◌≤◌, ◌⊎◌, inl, inr, ⊎_elim, nat_le, nat_lt, Bool, true, false, cond, ◌==◌, ◌&&◌, ◌||◌, eqb, refl, sym, ap, ◌∙◌, subst, arith, eq-eqb, ne_eqb, Option, None, Some}
use Rattle.std.proofs.lemmas.Bool.{lt-ltb, ltb-true, cases_eq, cases_Bool, eqb-true, le-leb, leb-true, both_ways, and_parts, and_from, or_cases, or_left, or_right, cond-true, cond-false, false_from_ne_true}
use Rattle.std.proofs.Math.Nat.{mod-eq-sub-mul-div, mul-div-le, mul-mod_right}
use Rattle.pm_layout.specs.declared.shape.Shape.{Shape}
use Rattle.pm_layout.specs.Chunks.{word_of_chunk, page_of_zone}
use Rattle.pm_view.specs.Places.{Place, InRun, InHuge, Descr, RootWord, Block, Small, Big, part, block_of, is_data, word_of}
use Rattle.pm_view.specs.Entries.{latest, redos, turn, first_of_two}
use Rattle.pm_view.specs.Claims.{class, first, geometry}
use Rattle.pm_view.specs.View.{View}
use Rattle.pm_view.specs.Views.{value_in}
use Rattle.pm_world.specs.States.{State, Diff, diff, given, over, after_diff, lit, size_at, bright, shown, bright_huge, live, Cells}
use Rattle.pm_world.specs.Sights.{is_pictured, is_made, is_recorded, call_in, sight_of}
use Rattle.pm_world.specs.Lanes.{Ghost, own, has, owns, is_size, BornFits, SightFits, GeoFits}
use Rattle.pm_world.specs.Lawful.{NewBlock}
use Rattle.pm_world.specs.Memory.{bit}
use Rattle.pm_world.proofs.Basics.{none_of}
use Rattle.pm_world.proofs.Geometry.{size_part}
use Rattle.pm_world.proofs.Frame.{own_has, fresh_given}
use Rattle.pm_world.proofs.Replays.{over_none}
use Rattle.pm_world.proofs.Values.{val_word}

option_cases : (a : Option Bool) → (a ≡ None) ⊎ ((a ≡ Some true) ⊎ (a ≡ Some false))
option_cases None = inl refl
option_cases (Some true) = inr (inl refl)
option_cases (Some false) = inr (inr refl)

some_value : (a : Option ℕ) → a ≢ None → (x : ℕ) × (a ≡ Some x)
some_value None ne = absurd (ne refl)
some_value (Some x) ne = (x, refl)

both_none : (a c : Option Bool) → given a ≡ false → given c ≡ false → given (first_of_two a c) ≡ false
both_none None c e u = u
both_none (Some y) c e u = absurd (both_ways true e refl)

abbrev is_some : Option Bool → Bool
is_some None = false
is_some (Some y) = true

-- the word in a line of a block
in_line : (n cl : ℕ) → n ≡ cl * (n / cl) + n % cl
in_line n cl = let a = mod-eq-sub-mul-div n cl in let b = mul-div-le n cl in omega arith

-- the size of a word's block is within the chunk too
size_inside : (cl w : ℕ) → w < 512 → nat_lt (8 * (1 + cl * ((w / 8 - 1) / cl)) + 1) 512 ≡ true
size_inside cl w l = let a = mul-div-le (w / 8 - 1) cl in Rattle.std.proofs.lemmas.Bool.lt-ltb (8 * (1 + cl * ((w / 8 - 1) / cl)) + 1) 512 (omega arith)

-- the first chunk of a huge block that the lane has, as the lane knows it
pub first_known : (sh : Shape) (cells : Cells) (S : State) (flies : ℕ → Diff → Type 0) (g : Ghost) (k : ℕ) (v : View) → SightFits sh cells S flies g k (sight_of v) → (c : ℕ) → has (sight_of v).hold (Big (g.geo.first c)) ≡ true → first v.fixed.shape v.claims c ≡ g.geo.first c
first_known sh cells S flies g k v f c o = f.hold.first c o

module _ (sh : Shape) (cells : Cells) (S : State) (flies : ℕ → Diff → Type 0) (g : Ghost) (geo : GeoFits sh S g) (k : ℕ) (v : View) (f : SightFits sh cells S flies g k (sight_of v))
    (new : (B : Block) → turn (latest (redos v.log.entries)) B ≡ Some true → NewBlock v B) where
  -- what was stored in a block that the call allocates is in its difference
  pub stored_at : (p : Place) (b : ℕ) → is_data p ≡ true → is_pictured p ≡ true → turn (latest (redos v.log.entries)) (block_of (geometry v.fixed.shape v.claims) p b) ≡ Some true → (x : ℕ) → value_in v (word_of v.fixed.shape p) ≡ Some x → (call_in v).fresh p b ≡ Some (bit x b)
  stored_at p b d r t x e = let made = is_made (turn (latest (redos v.log.entries)) (block_of (geometry v.fixed.shape v.claims) p b)) in let rec = is_recorded v.log.records p in
      let seen = option_map (λ y. bit y b) (value_in v (word_of v.fixed.shape p)) in
      cond-true (is_data p && (made || rec)) (cond (is_pictured p) seen None) None (and_from (is_data p) (made || rec) d (or_left made rec (ap is_made t)))
      ∙ (cond-true (is_pictured p) seen None r ∙ ap (option_map (λ y. bit y b)) e)

  -- a block's size stays, unless the call allocates the block; then it is what was stored
  size_stays : (p : Place) (B : Block) → is_size g.geo p ≡ true → ((b : ℕ) → block_of g.geo p b ≡ B) → turn (latest (redos v.log.entries)) B ≡ None → after_diff (diff (call_in v)) S p ≡ S p
  size_stays p B s at n = λ t b. same b t
    where
      same : (b : ℕ) → over (diff (call_in v) p b) (S p b) ≡ S p b
      same b = let y = f.sizes p b s in over_none (diff (call_in v) p b) (S p b) (both_none (latest (redos v.log.entries) p b) ((call_in v).fresh p b) y.0
          (false_from_ne_true (given ((call_in v).fresh p b)) (λ u. both_ways false refl (ap is_some (sym n ∙ (ap (turn (latest (redos v.log.entries))) (sym (at b)) ∙ y.1 u))))))

  size_stored : (p : Place) (x : ℕ) → is_size g.geo p ≡ true → is_data p ≡ true → is_pictured p ≡ true → ((b : ℕ) → turn (latest (redos v.log.entries)) (block_of (geometry v.fixed.shape v.claims) p b) ≡ Some true) → value_in v (word_of v.fixed.shape p) ≡ Some x → after_diff (diff (call_in v)) S p ≡ bit x
  size_stored p x s d r t e = λ i b. same b i
    where
      same : (b : ℕ) → over (diff (call_in v) p b) (S p b) ≡ bit x b
      same b = ap (λ a. over (first_of_two a ((call_in v).fresh p b)) (S p b)) (none_of (latest (redos v.log.entries) p b) (f.sizes p b s).0) ∙ ap (λ a. over a (S p b)) (stored_at p b d r (t b) x e)

  born_run : (c w b : ℕ) → owns g.geo S (sight_of v).hold (InRun c w) b ≡ true → live S g.geo g.runs (InRun c w) ≡ false → live (after_diff (diff (call_in v)) S) g.geo g.runs (InRun c w) ≡ true → given (diff (call_in v) (InRun c w) b) ≡ true
  born_run c w b o dead alive = let cl = g.geo.class c in let i = (w / 8 - 1) / cl in let l = (w / 8 - 1) % cl in let S' = after_diff (diff (call_in v)) S in
      let y = and_parts (g.runs c) (shown S' cl c w) alive in
      ⊎_elim (λ (e : eqb w 0 ≡ true). absurd (both_ways (live S g.geo g.runs (InRun c w)) dead (and_from (g.runs c) (shown S cl c w) y.0 (or_left (eqb w 0) ((nat_le 8 w && nat_lt w 512) && bright S cl c i l) e))))
      (λ (e : ((nat_le 8 w && nat_lt w 512) && bright S' cl c i l) ≡ true). let t = and_parts (nat_le 8 w && nat_lt w 512) (bright S' cl c i l) e in inside t.0 y.0 t.1) (or_cases (eqb w 0) ((nat_le 8 w && nat_lt w 512) && bright S' cl c i l) y.1)
    where
      inside : (nat_le 8 w && nat_lt w 512) ≡ true → g.runs c ≡ true → bright (after_diff (diff (call_in v)) S) (g.geo.class c) c ((w / 8 - 1) / g.geo.class c) ((w / 8 - 1) % g.geo.class c) ≡ true → given (diff (call_in v) (InRun c w) b) ≡ true
      inside range r q = let cl = g.geo.class c in let i = (w / 8 - 1) / cl in let l = (w / 8 - 1) % cl in let S' = after_diff (diff (call_in v)) S in let p = size_at cl c i in
          let le : 8 ≤ w = leb-true 8 w (and_parts (nat_le 8 w) (nat_lt w 512) range).0 in
          let one = (geo.classes c r).0 in
          let z : eqb w 0 ≡ false = ne_eqb w 0 (λ e. omega arith) in
          let at : (n : ℕ) → part n w b ≡ (w / 8 - 1) / n = λ n. cond-false (eqb w 0) b ((w / 8 - 1) / n) z in
          let oi : own (sight_of v).hold (Small c i) ≡ true = subst (λ n. own (sight_of v).hold (Small c n) ≡ true) (at cl) o in
          let known : class v.claims c ≡ cl = f.hold.class c i (own_has (sight_of v).hold (Small c i) oi) in
          let s : is_size g.geo p ≡ true = let e : (8 * (1 + cl * i) + 1) / 8 - 1 ≡ cl * i = omega arith in and_from (nat_le 8 (8 * (1 + cl * i) + 1)) ((((8 * (1 + cl * i) + 1) / 8 - 1) % cl == 0) && ((8 * (1 + cl * i) + 1) % 8 == 1)) (le-leb 8 (8 * (1 + cl * i) + 1) (omega arith))
          (and_from (((8 * (1 + cl * i) + 1) / 8 - 1) % cl == 0) ((8 * (1 + cl * i) + 1) % 8 == 1) (eq-eqb (((8 * (1 + cl * i) + 1) / 8 - 1) % cl) 0 (ap (λ n. n % cl) e ∙ mul-mod_right cl i)) (eq-eqb ((8 * (1 + cl * i) + 1) % 8) 1 (omega arith))) in
          let of : (n : ℕ) → block_of g.geo p n ≡ Small c i = λ n. ap (λ m. Small c m) (size_part cl i n one) in
          let ofv : (n : ℕ) → block_of (geometry v.fixed.shape v.claims) p n ≡ Small c i = λ n. ap (λ m. Small c (part m (8 * (1 + cl * i) + 1) n)) known ∙ of n in
          let u = and_parts (S' (InRun c 0) i) (lit (S' p) l) q in
          let d : is_data (InRun c w) ≡ true = (and_parts (nat_le 8 w) (nat_lt w 512) range).0 in
          ⊎_elim (λ (n : latest (redos v.log.entries) (InRun c 0) i ≡ None). absurd (both_ways (live S g.geo g.runs (InRun c w)) dead (and_from (g.runs c) (shown S cl c w) r (or_right (eqb w 0) ((nat_le 8 w && nat_lt w 512) && bright S cl c i l) (and_from (nat_le 8 w && nat_lt w 512) (bright S cl c i l) range
          (and_from (S (InRun c 0) i) (lit (S p) l) (sym (ap (λ a. over (first_of_two a None) (S (InRun c 0) i)) n) ∙ u.0) (sym (ap (λ a. lit a l) (size_stays p (Small c i) s of n)) ∙ u.1)))))))
          (⊎_elim (λ (n : latest (redos v.log.entries) (InRun c 0) i ≡ Some true). let m = new (Small c i) n in
          let tv : (a : ℕ) → turn (latest (redos v.log.entries)) (block_of (geometry v.fixed.shape v.claims) p a) ≡ Some true = λ a. ap (turn (latest (redos v.log.entries))) (ofv a) ∙ n in
          let base = word_of_chunk v.fixed.shape c in
          let sized : value_in v (word_of v.fixed.shape p) ≡ Some m.size = ap (value_in v) (let e : base + (8 * (1 + cl * i) + 1) ≡ base + 8 * (1 + cl * i) + 1 = omega arith in e ∙ ap (λ a. base + 8 * (1 + a * i) + 1) (sym known)) ∙ m.sized in
          let sd = (and_parts (nat_le 8 (8 * (1 + cl * i) + 1)) ((((8 * (1 + cl * i) + 1) / 8 - 1) % cl == 0) && ((8 * (1 + cl * i) + 1) % 8 == 1)) s).0 in
          let stored = size_stored p m.size s sd (and_from (nat_le 8 (8 * (1 + cl * i) + 1)) (nat_lt (8 * (1 + cl * i) + 1) 512) sd (size_inside cl w (Rattle.std.proofs.lemmas.Bool.ltb-true w 512 (and_parts (nat_le 8 w) (nat_lt w 512) range).1))) tv sized in
          let l' : l ≤ (m.size + 63) / 64 = leb-true l ((m.size + 63) / 64) (sym (ap (λ a. nat_le l ((a + 63) / 64)) (val_word m.size m.small)) ∙ (sym (ap (λ a. lit a l) stored) ∙ u.1)) in
          let line = in_line (w / 8 - 1) cl in
          let e : base + 8 * (1 + class v.claims c * i) + (8 * l + w % 8) ≡ base + w = ap (λ a. base + 8 * (1 + a * i) + (8 * l + w % 8)) known ∙ omega arith in
          let val = some_value (value_in v (base + w)) (λ a. m.filled l (w % 8) l' (omega arith) (ap (value_in v) e ∙ a)) in
          fresh_given (latest (redos v.log.entries) (InRun c w) b) ((call_in v).fresh (InRun c w) b) (ap given (stored_at (InRun c w) b d range (ap (λ a. turn (latest (redos v.log.entries)) (Small c a)) (ap (λ a. part a w b) known ∙ at cl) ∙ n) val.0 val.1)))
          (λ (n : latest (redos v.log.entries) (InRun c 0) i ≡ Some false). absurd (both_ways (S' (InRun c 0) i) (ap (λ a. over (first_of_two a None) (S (InRun c 0) i)) n) u.0))) (option_cases (latest (redos v.log.entries) (InRun c 0) i))

  born_huge : (c w b : ℕ) → owns g.geo S (sight_of v).hold (InHuge c w) b ≡ true → live S g.geo g.runs (InHuge c w) ≡ false → live (after_diff (diff (call_in v)) S) g.geo g.runs (InHuge c w) ≡ true → given (diff (call_in v) (InHuge c w) b) ≡ true
  born_huge c w b o dead alive = let h = g.geo.first c in let l = 64 * (c - h) + w / 8 in let S' = after_diff (diff (call_in v)) S in let p = InHuge h 1 in
      let y = and_parts (nat_lt w 512) (bright_huge S' h l) alive in let u = and_parts (S' (Descr h) 1) (lit (S' p) l) y.1 in
      let hb = own_has (sight_of v).hold (Big h) o in
      let s : is_size g.geo p ≡ true = and_from (g.geo.first h == h) true (eq-eqb (g.geo.first h) h (geo.twice c)) refl in
      let of : (n : ℕ) → block_of g.geo p n ≡ Big h = λ n. ap (λ a. Big a) (geo.twice c) in
      let hb' : (Rattle.pm_world.specs.Lanes.has (sight_of v).hold (Big (g.geo.first h))) ≡ true = subst (λ a. Rattle.pm_world.specs.Lanes.has (sight_of v).hold (Big a) ≡ true) (sym (geo.twice c)) hb in
      let ofv : (n : ℕ) → block_of (geometry v.fixed.shape v.claims) p n ≡ Big h = λ n. ap (λ a. Big a) (first_known sh cells S flies g k v f h hb' ∙ geo.twice c) in
      ⊎_elim (λ (n : latest (redos v.log.entries) (Descr h) 1 ≡ None). absurd (both_ways (live S g.geo g.runs (InHuge c w)) dead (and_from (nat_lt w 512) (bright_huge S h l) y.0
      (and_from (S (Descr h) 1) (lit (S p) l) (sym (ap (λ a. over (first_of_two a None) (S (Descr h) 1)) n) ∙ u.0) (sym (ap (λ a. lit a l) (size_stays p (Big h) s of n)) ∙ u.1)))))
      (⊎_elim (λ (n : latest (redos v.log.entries) (Descr h) 1 ≡ Some true). let m = new (Big h) n in
      let tv : (a : ℕ) → turn (latest (redos v.log.entries)) (block_of (geometry v.fixed.shape v.claims) p a) ≡ Some true = λ a. ap (turn (latest (redos v.log.entries))) (ofv a) ∙ n in
      let stored = size_stored p m.size s refl refl tv m.sized in
      let l' : l ≤ (m.size + 63) / 64 = leb-true l ((m.size + 63) / 64) (sym (ap (λ a. nat_le l ((a + 63) / 64)) (val_word m.size m.small)) ∙ (sym (ap (λ a. lit a l) stored) ∙ u.1)) in
      let span = and_parts (nat_le h c) (nat_lt c (h + (sight_of v).hold.span h)) (sym (f.hold.span h hb c) ∙ eq-eqb (g.geo.first c) h refl) in
      let e = word_at h c w ((sight_of v).hold.span h) (leb-true h c span.0) (ltb-true c (h + (sight_of v).hold.span h) span.1) (f.hold.zone h hb) (ltb-true w 512 y.0) in
      let val = some_value (value_in v (word_of_chunk v.fixed.shape c + w)) (λ a. m.filled l (w % 8) l' (omega arith) (ap (value_in v) e ∙ a)) in
      fresh_given (latest (redos v.log.entries) (InHuge c w) b) ((call_in v).fresh (InHuge c w) b) (ap given (stored_at (InHuge c w) b refl y.0 (ap (λ a. turn (latest (redos v.log.entries)) (Big a)) (f.hold.first c hb) ∙ n) val.0 val.1)))
      (λ (n : latest (redos v.log.entries) (Descr h) 1 ≡ Some false). absurd (both_ways (S' (Descr h) 1) (ap (λ a. over (first_of_two a None) (S (Descr h) 1)) n) u.0))) (option_cases (latest (redos v.log.entries) (Descr h) 1))
    where
      -- the chunks of a huge block lie one after another in one zone
      word_at : (h c w n : ℕ) → h ≤ c → c < h + n → h % 64 + n ≤ 64 → w < 512 → word_of_chunk v.fixed.shape h + (8 * (64 * (c - h) + w / 8) + w % 8) ≡ word_of_chunk v.fixed.shape c + w
      word_at h c w n from to zone small = let q : c / 64 ≡ h / 64 = omega arith in let r : c % 64 ≡ h % 64 + (c - h) = omega arith in
          sym (ap (λ a. 512 * (page_of_zone v.fixed.shape a + 1 + c % 64) + w) q ∙ ap (λ a. 512 * (page_of_zone v.fixed.shape (h / 64) + 1 + a) + w) r ∙ omega arith)

  pub born : BornFits S g (sight_of v).hold (diff (call_in v))
  born (InRun c w) b o n l = born_run c w b o n l
  born (InHuge c w) b o n l = born_huge c w b o n l
  born (Descr c) b o n l = absurd (both_ways true n refl)
  born RootWord b o n l = absurd (both_ways true n refl)
