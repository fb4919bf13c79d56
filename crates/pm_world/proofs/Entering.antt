-- ONE MORE ENTRY of an open call, over bits: what the lane's sight owes, where the entry's bits are of its own blocks, of blocks that it found, or of data
-- that it may change.
use Rattle.std.specs.Prelude.{List, [], ◌∷◌, ◌++◌}
use Rattle.std.proofs.Common.{◌≡◌, ℕ, suc, ◌<◌, ◌⊎◌, inl, inr, ⊎_elim, Bool, true, false, ◌&&◌, ◌||◌, refl, sym, ap, ◌∙◌, subst, arith, Option, None, Some}
use Rattle.std.proofs.lemmas.Bool.{both_ways, and_parts, and_from, or_cases, or_right, cond-true, false_from_ne_true}
use Rattle.pm_layout.specs.declared.shape.Shape.{Shape}
use Rattle.pm_view.specs.Changes.{Undrained}
use Rattle.pm_view.specs.Claims.{first, geometry}
use Rattle.pm_view.specs.Entries.{Entry, delta, latest, redos, with_redo, turn, first_of_two}
use Rattle.pm_view.specs.Log.{Open, Recorded, Log, old_in, old_of}
use Rattle.pm_view.specs.Places.{Place, InRun, InHuge, Descr, RootWord, Block, Small, Big, Root, part, block_of, header, is_data, in_span}
use Rattle.pm_view.specs.View.{View}
use Rattle.pm_world.specs.States.{State, Diff, diff, given, over, there, val, Cells}
use Rattle.pm_world.specs.Sights.{Hold, is_made, is_recorded, is_slot_drained, is_logged_from, call_of, call_in, sight_of}
use Rattle.pm_world.specs.Lanes.{Ghost, own, has, owns, is_in_making, TurnBefore, DescrFits, is_size, SightFits, GeoFits}
use Rattle.pm_world.proofs.Basics.{given_cond, given_cases, some_cond, made_turn, val_alike, first_given, second_given}
use Rattle.pm_world.proofs.BlocksKnown.{first_so, block_so}
use Rattle.pm_world.proofs.Frame.{mine_own, own_has, some_first, fresh_given, maker_no_run, maker_owns, small_run}

-- what one entry makes of each bit
abbrev pub added : Entry → Diff
added e p b = given_by e.place
  where
    given_by : Option Place → Option Bool
    given_by None = None
    given_by (Some q) = delta record { place = q; op = e.op; value = e.value } p b

first_three : (a b c : Option Bool) → first_of_two (first_of_two a b) c ≡ first_of_two a (first_of_two b c)
first_three None b c = refl
first_three (Some y) b c = refl

-- the last entry comes before the others
pub latest_more : (es : List Entry) (e : Entry) (p : Place) (b : ℕ) → latest (redos (es ++ e ∷ [])) p b ≡ first_of_two (added e p b) (latest (redos es) p b)
latest_more [] e p b = go e.place
  where
    none_after : (a : Option Bool) → a ≡ first_of_two a None
    none_after None = refl
    none_after (Some y) = refl

    go : (q : Option Place) → latest (with_redo q e []) p b ≡ first_of_two (added (record e { place = q }) p b) None
    go None = refl
    go (Some q) = none_after (delta record { place = q; op = e.op; value = e.value } p b)
latest_more (d ∷ es) e p b = go d.place (latest_more es e p b)
  where
    go : (q : Option Place) → latest (redos (es ++ e ∷ [])) p b ≡ first_of_two (added e p b) (latest (redos es) p b) → latest (with_redo q d (redos (es ++ e ∷ []))) p b ≡ first_of_two (added e p b) (latest (with_redo q d (redos es)) p b)
    go None r = r
    go (Some q) r = ap (λ a. first_of_two a (delta record { place = q; op = d.op; value = d.value } p b)) r ∙ first_three (added e p b) (latest (redos es) p b) (delta record { place = q; op = d.op; value = d.value } p b)

pub turn_more : (es : List Entry) (e : Entry) (B : Block) → turn (latest (redos (es ++ e ∷ []))) B ≡ first_of_two (turn (added e) B) (turn (latest (redos es)) B)
turn_more es e (Small c i) = latest_more es e (InRun c 0) i
turn_more es e (Big f) = latest_more es e (Descr f) 1
turn_more es e Root = refl

turn_first : (l m h : Bool) (a c : Option Bool) → TurnBefore l m h a → TurnBefore l m h c → TurnBefore l m h (first_of_two a c)
turn_first l m h None c x y = y
turn_first l m h (Some t) c x y = x

-- a word whose record is drained is recorded
pub logged_recorded : (sh : Shape) (lane : ℕ) (changes : List Undrained) (j : ℕ) (rs : List Recorded) (p : Place) → is_logged_from sh lane changes j rs p ≡ true → is_recorded rs p ≡ true
logged_recorded sh lane changes j [] p e = e
logged_recorded sh lane changes j (r ∷ rs) p e = ⊎_elim (λ (t : (given (old_in r p) && is_slot_drained sh lane changes j) ≡ true). first_given (old_in r p) (old_of rs p) (and_parts (given (old_in r p)) (is_slot_drained sh lane changes j) t).0)
    (λ (t : is_logged_from sh lane changes (suc j) rs p ≡ true). second_given (old_in r p) (old_of rs p) (logged_recorded sh lane changes (suc j) rs p t)) (or_cases (given (old_in r p) && is_slot_drained sh lane changes j) (is_logged_from sh lane changes (suc j) rs p) e)

-- a descriptor that is told by its bits below 64
descr_alike : (a : Option Bool) (f n : ℕ) (d d' : ℕ → Option Bool) → given a ≡ true → ((b : ℕ) → b < 64 → d' b ≡ d b) → DescrFits a f n d → DescrFits a f n d'
descr_alike None f n d d' e h x = absurd (both_ways false refl e)
descr_alike (Some true) f n d d' e h x = λ c. ap (λ t. in_span f t c) (val_alike (λ b. over (d' b) false) (λ b. over (d b) false) 8 56 (λ b l. ap (λ y. over y false) (h b (omega arith)))) ∙ x c
descr_alike (Some false) f n d d' e h x = λ b l. h b l ∙ x b l

-- what is asked of the entry
pub record Enters (S : State) (g : Ghost) (h : Hold) (d : Diff) : Type 0 where
  pub turns : (B : Block) → TurnBefore false (h.mine B) (h.here B) (turn d B)
  pub reach : (p : Place) (b : ℕ) → given (d p b) ≡ true → owns g.geo S h p b ≡ true
  pub plain : (p : Place) (b : ℕ) → given (d p b) ≡ true → is_in_making h p ≡ false
  pub sizes : (p : Place) (b : ℕ) → is_size g.geo p ≡ true → given (d p b) ≡ false
  pub descr : (f : ℕ) → ((b : ℕ) → d (Descr f) b ≡ None) ⊎ (((b : ℕ) → b < 64 → given (d (Descr f) b) ≡ true) × DescrFits (turn d (Big f)) f (h.span f) (d (Descr f)))

module _ (sh : Shape) (cells : Cells) (S : State) (flies : ℕ → Diff → Type 0) (g : Ghost) (geo : GeoFits sh S g) (k : ℕ) (v : View) (f : SightFits sh cells S flies g k (record (sight_of v) { phase = Open })) where
  abbrev h : Hold
  h = (sight_of v).hold

  pub huge_known : (c : ℕ) → has (sight_of v).hold (Big (first v.fixed.shape v.claims c)) ≡ true → first v.fixed.shape v.claims c ≡ g.geo.first c
  huge_known = first_so sh cells S flies g geo k v Open f

  -- the block of a word, as the lane knows it, where it has that block
  pub block_known : (p : Place) (b : ℕ) → has (sight_of v).hold (block_of (geometry v.fixed.shape v.claims) p b) ≡ true → block_of (geometry v.fixed.shape v.claims) p b ≡ block_of g.geo p b
  block_known = block_so sh cells S flies g geo k v Open f

  -- a block is not the lane's own and found at once
  pub not_both : (B : Block) → (sight_of v).hold.mine B ≡ true → (sight_of v).hold.here B ≡ true → ⊥
  not_both B m q = both_ways (there S B) (f.hold.mine B m).2 (f.hold.found B (f.hold.here B q).1).2

  module _ (e : Entry) (a : Enters S g (sight_of v).hold (added e)) where
    abbrev es : List Entry
    es = v.log.entries

    abbrev log : Log
    log = record v.log { phase = Open; entries = v.log.entries ++ e ∷ []; pair = [] }

    abbrev call' : Rattle.pm_world.specs.States.Call
    call' = call_of v.fixed.shape v.claims (record v.log { phase = Open; entries = v.log.entries ++ e ∷ []; pair = [] })

    turns' : (B : Block) → TurnBefore ((sight_of v).hold.locked (header sh g.geo B)) ((sight_of v).hold.mine B) ((sight_of v).hold.here B) (turn (latest (redos (v.log.entries ++ e ∷ []))) B)
    turns' B = subst (TurnBefore ((sight_of v).hold.locked (header sh g.geo B)) ((sight_of v).hold.mine B) ((sight_of v).hold.here B)) (sym (turn_more v.log.entries e B))
        (turn_first ((sight_of v).hold.locked (header sh g.geo B)) ((sight_of v).hold.mine B) ((sight_of v).hold.here B) (turn (added e) B) (turn (latest (redos v.log.entries)) B) (lock_any ((sight_of v).hold.mine B) ((sight_of v).hold.here B) (turn (added e) B) (a.turns B)) (f.turns B))
      where
        lock_any : (m h : Bool) (t : Option Bool) → TurnBefore false m h t → TurnBefore ((sight_of v).hold.locked (header sh g.geo B)) m h t
        lock_any m h None y = y
        lock_any m h (Some true) y = y
        lock_any m h (Some false) y = y

    -- a block that the call allocates is the lane's own
    made_mine : (B : Block) → turn (latest (redos (v.log.entries ++ e ∷ []))) B ≡ Some true → (sight_of v).hold.mine B ≡ true
    made_mine B t = subst (TurnBefore ((sight_of v).hold.locked (header sh g.geo B)) ((sight_of v).hold.mine B) ((sight_of v).hold.here B)) t (turns' B)

    fresh_cases : (p : Place) (b : ℕ) → given (call'.fresh p b) ≡ true → ((is_data p ≡ true) × (turn (latest (redos (v.log.entries ++ e ∷ []))) (block_of (geometry v.fixed.shape v.claims) p b) ≡ Some true)) ⊎ (given ((call_in v).fresh p b) ≡ true)
    fresh_cases p b y = let B = block_of (geometry v.fixed.shape v.claims) p b in let made = is_made (turn (latest (redos (v.log.entries ++ e ∷ []))) B) in let rec = is_recorded v.log.records p in
        let t = given_cond (is_data p && (made || rec)) ((sight_of v).picture p b) y in let z = and_parts (is_data p) (made || rec) t.0 in
        ⊎_elim (λ (m : made ≡ true). inl (z.0, made_turn (turn (latest (redos (v.log.entries ++ e ∷ []))) B) m))
        (λ (r : rec ≡ true). let was = is_made (turn (latest (redos v.log.entries)) B) in inr (ap given (cond-true (is_data p && (was || rec)) ((sight_of v).picture p b) None (and_from (is_data p) (was || rec) z.0 (or_right was rec r))) ∙ t.1)) (or_cases made rec z.1)

    made_owned : (p : Place) (b : ℕ) → is_data p ≡ true → (sight_of v).hold.mine (block_of (geometry v.fixed.shape v.claims) p b) ≡ true → owns g.geo S (sight_of v).hold p b ≡ true
    made_owned p b d m = go p d (mine_own (sight_of v).hold (block_of g.geo p b) (subst (λ B. (sight_of v).hold.mine B ≡ true) (block_known p b (own_has (sight_of v).hold (block_of (geometry v.fixed.shape v.claims) p b) (mine_own (sight_of v).hold (block_of (geometry v.fixed.shape v.claims) p b) m))) m))
      where
        go : (p : Place) → is_data p ≡ true → own (sight_of v).hold (block_of g.geo p b) ≡ true → owns g.geo S (sight_of v).hold p b ≡ true
        go (InRun c u) d o = o
        go (InHuge c u) d o = o
        go (Descr c) d o = absurd (both_ways false refl d)
        go RootWord d o = absurd (both_ways false refl d)

    latest_cases : (p : Place) (b : ℕ) → given (latest (redos (v.log.entries ++ e ∷ [])) p b) ≡ true → (given (added e p b) ≡ true) ⊎ (given (latest (redos v.log.entries) p b) ≡ true)
    latest_cases p b y = given_cases (added e p b) (latest (redos v.log.entries) p b) (sym (ap given (latest_more v.log.entries e p b)) ∙ y)

    plain_latest : (p : Place) (b : ℕ) → given (latest (redos (v.log.entries ++ e ∷ [])) p b) ≡ true → is_in_making (sight_of v).hold p ≡ false
    plain_latest p b y = ⊎_elim (λ (t : given (added e p b) ≡ true). a.plain p b t) (λ (t : given (latest (redos v.log.entries) p b) ≡ true). f.plain p b (some_first (latest (redos v.log.entries) p b) ((call_in v).fresh p b) t)) (latest_cases p b y)

    made_plain : (p : Place) (b : ℕ) → is_data p ≡ true → (sight_of v).hold.mine (block_of g.geo p b) ≡ true → turn (latest (redos (v.log.entries ++ e ∷ []))) (block_of g.geo p b) ≡ Some true → is_in_making (sight_of v).hold p ≡ false
    made_plain (InRun c u) b d m t = false_from_ne_true ((sight_of v).hold.making c) (λ y. both_ways (g.runs c) (maker_no_run sh cells S flies g geo k (record (sight_of v) { phase = Open }) f c y) (small_run sh cells S flies g geo k (record (sight_of v) { phase = Open }) f c (part (g.geo.class c) u b) (f.hold.mine (Small c (part (g.geo.class c) u b)) m).1))
    made_plain (InHuge c u) b d m t = false_from_ne_true ((sight_of v).hold.making c) (λ y. let s = (maker_owns sh cells S flies g geo k (record (sight_of v) { phase = Open }) f c y).1 in
        both_ways ((sight_of v).hold.making c) (plain_latest (Descr c) 1 (ap given (subst (λ z. latest (redos (v.log.entries ++ e ∷ [])) (Descr z) 1 ≡ Some true) s t))) y)
    made_plain (Descr c) b d m t = absurd (both_ways false refl d)
    made_plain RootWord b d m t = absurd (both_ways false refl d)

    descr' : (y : ℕ) → DescrFits (turn (latest (redos (v.log.entries ++ e ∷ []))) (Big y)) y ((sight_of v).hold.span y) (λ b. diff call' (Descr y) b)
    descr' y = ⊎_elim (λ (n : (b : ℕ) → added e (Descr y) b ≡ None). let same : (b : ℕ) → latest (redos (v.log.entries ++ e ∷ [])) (Descr y) b ≡ latest (redos v.log.entries) (Descr y) b = λ b. latest_more v.log.entries e (Descr y) b ∙ ap (λ t. first_of_two t (latest (redos v.log.entries) (Descr y) b)) (n b) in
        let P : (ℕ → Option Bool) → Type 0 = λ d. DescrFits (d 1) y ((sight_of v).hold.span y) (λ b. first_of_two (d b) None) in let q : latest (redos v.log.entries) (Descr y) ≡ latest (redos (v.log.entries ++ e ∷ [])) (Descr y) = λ i b. sym (same b) i in subst P q (f.call.descr y))
        (λ (n : ((b : ℕ) → b < 64 → given (added e (Descr y) b) ≡ true) × DescrFits (turn (added e) (Big y)) y ((sight_of v).hold.span y) (added e (Descr y))).
        let same : (b : ℕ) → b < 64 → latest (redos (v.log.entries ++ e ∷ [])) (Descr y) b ≡ added e (Descr y) b = λ b l. latest_more v.log.entries e (Descr y) b ∙ given_first (added e (Descr y) b) (latest (redos v.log.entries) (Descr y) b) (n.0 b l) in
        subst (λ t. DescrFits t y ((sight_of v).hold.span y) (λ b. diff call' (Descr y) b)) (sym (same 1 (omega arith)))
        (descr_alike (added e (Descr y) 1) y ((sight_of v).hold.span y) (added e (Descr y)) (λ b. diff call' (Descr y) b) (n.0 1 (omega arith)) (λ b l. ap (λ t. first_of_two t None) (same b l) ∙ none_after (added e (Descr y) b)) n.1)) (a.descr y)
      where
        given_first : (a c : Option Bool) → given a ≡ true → first_of_two a c ≡ a
        given_first None c t = absurd (both_ways false refl t)
        given_first (Some y) c t = refl

        none_after : (a : Option Bool) → first_of_two a None ≡ a
        none_after None = refl
        none_after (Some y) = refl

    keeps_turn : (B : Block) → turn (latest (redos v.log.entries)) B ≡ Some true → turn (latest (redos (v.log.entries ++ e ∷ []))) B ≡ Some true
    keeps_turn B t = turn_more v.log.entries e B ∙ (ap (first_of_two (turn (added e) B)) t ∙ go (turn (added e) B) (a.turns B))
      where
        mine_now : (sight_of v).hold.mine B ≡ true
        mine_now = subst (TurnBefore ((sight_of v).hold.locked (header sh g.geo B)) ((sight_of v).hold.mine B) ((sight_of v).hold.here B)) t (f.turns B)

        go : (y : Option Bool) → TurnBefore false ((sight_of v).hold.mine B) ((sight_of v).hold.here B) y → first_of_two y (Some true) ≡ Some true
        go None x = refl
        go (Some true) x = refl
        go (Some false) x = absurd (not_both B mine_now x)

    -- THE LANE'S SIGHT FITS, with one more entry
    pub entered_fits : SightFits sh cells S flies g k (record (sight_of v) { phase = Open; call = call_of v.fixed.shape v.claims (record v.log { phase = Open; entries = v.log.entries ++ e ∷ []; pair = [] }) })
    entered_fits = record {
      hold = f.hold;
      bits = λ p b o. let t = f.bits p b o in (t.0, t.1, λ q. absurd (both_ways false refl q), t.3);
      picture = f.picture;
      turns = turns';
      call = record { flight = tt; todo = λ p b y q. absurd (both_ways true (ap given (sym q)) refl); descr = descr' };
      reach = λ p b t. ⊎_elim (λ (q : given (latest (redos (v.log.entries ++ e ∷ [])) p b) ≡ true). ⊎_elim (λ (r : given (added e p b) ≡ true). a.reach p b r) (λ (r : given (latest (redos v.log.entries) p b) ≡ true). f.reach p b (some_first (latest (redos v.log.entries) p b) ((call_in v).fresh p b) r)) (latest_cases p b q))
          (λ (q : given (call'.fresh p b) ≡ true). ⊎_elim (λ (r : (is_data p ≡ true) × (turn (latest (redos (v.log.entries ++ e ∷ []))) (block_of (geometry v.fixed.shape v.claims) p b) ≡ Some true)). made_owned p b r.0 (made_mine (block_of (geometry v.fixed.shape v.claims) p b) r.1))
          (λ (r : given ((call_in v).fresh p b) ≡ true). f.reach p b (fresh_given (latest (redos v.log.entries) p b) ((call_in v).fresh p b) r)) (fresh_cases p b q)) (given_cases (latest (redos (v.log.entries ++ e ∷ [])) p b) (call'.fresh p b) t);
      plain = λ p b t. ⊎_elim (λ (q : given (latest (redos (v.log.entries ++ e ∷ [])) p b) ≡ true). plain_latest p b q)
          (λ (q : given (call'.fresh p b) ≡ true). ⊎_elim (λ (r : (is_data p ≡ true) × (turn (latest (redos (v.log.entries ++ e ∷ []))) (block_of (geometry v.fixed.shape v.claims) p b) ≡ Some true)).
          let m = made_mine (block_of (geometry v.fixed.shape v.claims) p b) r.1 in let s = block_known p b (own_has (sight_of v).hold (block_of (geometry v.fixed.shape v.claims) p b) (mine_own (sight_of v).hold (block_of (geometry v.fixed.shape v.claims) p b) m)) in
          made_plain p b r.0 (subst (λ B. (sight_of v).hold.mine B ≡ true) s m) (subst (λ B. turn (latest (redos (v.log.entries ++ e ∷ []))) B ≡ Some true) s r.1))
          (λ (r : given ((call_in v).fresh p b) ≡ true). f.plain p b (fresh_given (latest (redos v.log.entries) p b) ((call_in v).fresh p b) r)) (fresh_cases p b q)) (given_cases (latest (redos (v.log.entries ++ e ∷ [])) p b) (call'.fresh p b) t);
      logged = f.logged;
      stored = λ p b u t. let B = block_of (geometry v.fixed.shape v.claims) p b in let made = is_made (turn (latest (redos (v.log.entries ++ e ∷ []))) B) in let was = is_made (turn (latest (redos v.log.entries)) B) in let rec = is_recorded v.log.records p in
          let z = given_cond (is_data p && (was || rec)) ((sight_of v).picture p b) (f.stored p b u t) in
          ap given (cond-true (is_data p && (made || rec)) ((sight_of v).picture p b) None (and_from (is_data p) (made || rec) (and_parts (is_data p) (was || rec) z.0).0 (or_right made rec (logged_recorded v.fixed.shape v.fixed.lane v.changes 0 v.log.records p t)))) ∙ z.1;
      fresh = λ p b y q. some_cond (is_data p && (is_made (turn (latest (redos (v.log.entries ++ e ∷ []))) (block_of (geometry v.fixed.shape v.claims) p b)) || is_recorded v.log.records p)) ((sight_of v).picture p b) y q;
      sizes = λ p b s. (
        false_from_ne_true (given (latest (redos (v.log.entries ++ e ∷ [])) p b)) (λ q. ⊎_elim (λ (r : given (added e p b) ≡ true). both_ways (given (added e p b)) (a.sizes p b s) r) (λ (r : given (latest (redos v.log.entries) p b) ≡ true). both_ways (given (latest (redos v.log.entries) p b)) (f.sizes p b s).0 r) (latest_cases p b q)),
        λ q. ⊎_elim (λ (r : (is_data p ≡ true) × (turn (latest (redos (v.log.entries ++ e ∷ []))) (block_of (geometry v.fixed.shape v.claims) p b) ≡ Some true)). let m = made_mine (block_of (geometry v.fixed.shape v.claims) p b) r.1 in
            subst (λ B. turn (latest (redos (v.log.entries ++ e ∷ []))) B ≡ Some true) (block_known p b (own_has (sight_of v).hold (block_of (geometry v.fixed.shape v.claims) p b) (mine_own (sight_of v).hold (block_of (geometry v.fixed.shape v.claims) p b) m))) r.1)
            (λ (r : given ((call_in v).fresh p b) ≡ true). keeps_turn (block_of g.geo p b) ((f.sizes p b s).1 r)) (fresh_cases p b q),
      );
      born = λ y. absurd (both_ways false refl y);
      guarded = λ y. absurd (both_ways false refl y);
      soiled = f.soiled;
    }
