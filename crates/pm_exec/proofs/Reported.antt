-- THE ENTRIES THAT LANES REPORT are a history, and those that are not lost are the calls that are
-- kept: from what each lane told, and from the entries' numbers.
use Rattle.std.proofs.Common.{◌≡◌, inl, inr, ℕ, zero, suc, ◌+◌, ◌<◌, ◌≤◌, ◌==◌, not, Bool, true, false, cond, Contains, List, [], ◌∷◌, ◌++◌, length, map, reverse, get_or, take, refl, sym, ap, ◌∙◌, subst, arith, Option, None, Some}
use Rattle.std.specs.List.{AllZip, filter}
use Rattle.std.proofs.lemmas.Bool.{eqb-true, eq-eqb, ltb-true, ltb-false}
use Rattle.std.proofs.lemmas.List.{append-nil, take_all}
use Rattle.std.proofs.lemmas.List.Elements.{filter_more}
use lib.Dec.{ltb}
use Rattle.pm_objects.specs.declared.calls.Call.{Call}
use Rattle.pm_objects.specs.declared.calls.Operation.{Operation}
use Rattle.pm_objects.specs.declared.history.Entry.{Entry}
use Rattle.pm_objects.specs.declared.history.Reply.{Reply}
use Rattle.pm_objects.specs.declared.history.Value.TheVariants.{Refused}
use Rattle.pm_objects.specs.declared.refusal.Refusal.{Refusal}
use Rattle.pm_model.specs.Inside.{Ran}
use Rattle.pm_model.specs.CallStep.{CallRun}
use Rattle.pm_model.specs.History.{IsHistory, is_answered, is_lost, without_lost}
use Rattle.pm_model.specs.Shown.{IsEntry, IsShown}
use Rattle.pm_view.specs.View.{Numbered, Told, View, entry_drawn}
use Rattle.pm_world.specs.World.{Past, numbered_by}
use Rattle.pm_call.specs.Histories.{Ended, ended_of}
use Rattle.pm_crash.specs.Calls.{IsRunOf}
use Rattle.pm_crash.specs.Facts.{last_of, last_or}
use Rattle.pm_crash.specs.Replayed.{kept_calls}
use Rattle.pm_exec.specs.Answers.{EndedAs, EndsAsRecorded, MayHaveFate, refused_as, ran_of, run_of}
use Rattle.pm_exec.specs.Reports.{entries_of_lane}
use Rattle.pm_exec.proofs.Rising.{Falls, Has, Rises, filter_has, filter_rises, has_at, has_left, in_filter, in_map, in_reverse, map_falls, map_has, more_passes, one_of_number, place_of, reverse_has, reverse_rises, same_rising, zip_left, zip_push, zip_right, zip_rises, zip_through}
use Rattle.pm_exec.proofs.Shown.{run_fate, run_shown}

abbrev pub number_of : Entry → ℕ
number_of e = e.number

abbrev number_ended : Ended → ℕ
number_ended d = d.number

-- ---- A LANE'S ENTRIES in the history

module _ (lane : ℕ) (drew : ℕ → View) where
  record Drawn (n : ℕ) (e : Numbered) : Type 0 where
    pub call : ℕ
    pub low : call < n
    pub of_lane : (drew call).fixed.lane ≡ lane
    pub is : e ≡ entry_drawn call (drew call)

  abbrev numbered : ℕ → List Numbered
  numbered n = numbered_by lane drew n

  step_in : (n : ℕ) (b : Bool) → ((drew n).fixed.lane == lane) ≡ b → (e : Numbered) → (Has (numbered n) e → Drawn n e) → Has (cond b (entry_drawn n (drew n) ∷ numbered n) (numbered n)) e → Drawn (suc n) e
  step_in n true is e earlier (inl here) = record { call = n; low = omega arith; of_lane = eqb-true (drew n).fixed.lane lane is; is = sym here }
  step_in n true is e earlier (inr there) = let d = earlier there in let low : d.call < n = d.low in record { call = d.call; low = omega arith; of_lane = d.of_lane; is = d.is }
  step_in n false is e earlier there = let d = earlier there in let low : d.call < n = d.low in record { call = d.call; low = omega arith; of_lane = d.of_lane; is = d.is }

  in_numbered : (n : ℕ) (e : Numbered) → Has (numbered n) e → Drawn n e
  in_numbered zero e there = absurd there
  in_numbered (suc n) e there = step_in n ((drew n).fixed.lane == lane) refl e (in_numbered n e) there

  first_has : (n i : ℕ) → i ≡ n → (drew i).fixed.lane ≡ lane → Has (numbered (suc n)) (entry_drawn i (drew i))
  first_has n i same is =
      subst (λ b. Has (cond b (entry_drawn n (drew n) ∷ numbered n) (numbered n)) (entry_drawn i (drew i)))
      (sym (ap (λ m. (drew m).fixed.lane == lane) (sym same) ∙ eq-eqb (drew i).fixed.lane lane is))
      (inl (ap (λ m. entry_drawn m (drew m)) (sym same)))

  split_has : (n i : ℕ) (b : Bool) → ltb i n ≡ b → i < suc n → (drew i).fixed.lane ≡ lane → (i < n → Has (numbered n) (entry_drawn i (drew i))) → Has (numbered (suc n)) (entry_drawn i (drew i))
  split_has n i true is low of earlier = more_passes (entry_drawn n (drew n)) (numbered n) (entry_drawn i (drew i)) ((drew n).fixed.lane == lane) (earlier (ltb-true i n is))
  split_has n i false is low of earlier = let high = ltb-false i n is in first_has n i (omega arith) of

  numbered_has : (n i : ℕ) → i < n → (drew i).fixed.lane ≡ lane → Has (numbered n) (entry_drawn i (drew i))
  numbered_has zero i low of = absurd (omega arith)
  numbered_has (suc n) i low of = split_has n i (ltb i n) refl low of (λ less. numbered_has n i less of)

  step_falls : (n : ℕ) (b : Bool) → Falls (λ (e : Numbered). e.number) (numbered n) → Falls (λ (e : Numbered). e.number) (cond b (entry_drawn n (drew n) ∷ numbered n) (numbered n))
  step_falls n true falls = (
    λ e there.
        let d = in_numbered n e there in
        let low : d.call < n = d.low in
        let same : e.number ≡ suc d.call = ap (λ (x : Numbered). x.number) d.is in
        omega (arith, low, same),
    falls,
  )
  step_falls n false falls = falls

  numbered_falls : (n : ℕ) → Falls (λ (e : Numbered). e.number) (numbered n)
  numbered_falls zero = tt
  numbered_falls (suc n) = step_falls n ((drew n).fixed.lane == lane) (numbered_falls n)

-- ---- WHAT A LANE TOLD, and what is reported of it

-- the entry shows the lane's call
pub record Shows (lane : ℕ) (e : Entry) (d : Ended) : Type 0 where
  pub number : e.number ≡ d.number
  pub lane_is : e.call.lane ≡ lane
  pub shown : IsShown e.call e.reply (run_of lane d.call)
  pub fate : MayHaveFate d.call e.fate
  pub ended : EndsAsRecorded d.call e.fate

abbrev pub told_by_lane : ℕ → Past → List Ended
told_by_lane lane g = reverse (map ended_of (numbered_by lane g.drew g.length))

pub shown_rise : (g : Past) (lane : ℕ) (es : List Entry) → AllZip (Shows lane) es (told_by_lane lane g) → Rises number_of es
shown_rise g lane es shows =
    zip_rises (Shows lane) number_of number_ended (λ e d s. s.number) es (told_by_lane lane g) shows
    (reverse_rises number_ended (map ended_of (numbered_by lane g.drew g.length))
    (map_falls ended_of number_ended (numbered_by lane g.drew g.length) (numbered_falls lane g.drew g.length)))

-- these entries show the lane's calls; the lost ones are those that are not kept; and an unanswered
-- one is the last
pub record LaneSays (g : Past) (keep : ℕ → Bool) (lane : ℕ) (es : List Entry) : Type 0 where
  pub shows : AllZip (Shows lane) es (told_by_lane lane g)
  pub fates : (e : Entry) (n : ℕ) → Has es e → e.number ≡ suc n → n < g.length → (g.drew n).fixed.lane ≡ lane → is_lost e.fate ≡ not (keep n)
  pub open_last : (e f : Entry) → Has es e → Has es f → e.number < f.number → is_answered e.fate ≡ true

-- the entry is of a lane
pub record OfSome (lanes : ℕ) (es : ℕ → List Entry) (e : Entry) : Type 0 where
  pub lane : ℕ
  pub low : lane < lanes
  pub there : Has (es lane) e

-- some lane has an entry with this number
pub record NumberOf (lanes : ℕ) (es : ℕ → List Entry) (n : ℕ) : Type 0 where
  pub lane : ℕ
  pub low : lane < lanes
  pub entry : Entry
  pub there : Has (es lane) entry
  pub number : entry.number ≡ n

pub record InOrder (lanes : ℕ) (es : ℕ → List Entry) (entries : List Entry) : Type 0 where
  pub each : (i : ℕ) (d : Entry) → i < length entries → OfSome lanes es (get_or entries i d)
  pub numbers : (i : ℕ) (d : Entry) → i < length entries → (get_or entries i d).number ≡ i + 1
  pub all : (k : ℕ) → k < lanes → (e : Entry) → Has (es k) e → (1 ≤ e.number) × (e.number ≤ length entries)

-- the entry stands for this call of the history
record ShowsCall (e : Entry) (v : View) : Type 0 where
  pub shown : IsShown e.call e.reply (run_of v.fixed.lane v.call)
  pub fate : MayHaveFate v.call e.fate

is_entry : (e : Entry) (v : View) (run : CallRun) → ShowsCall e v → IsRunOf v run → IsEntry e run
is_entry e v run shows of = record {
  shown = run_shown e.call e.reply v.fixed.lane v.call run of.lane of.told shows.shown;
  fate = run_fate v.call run e.fate of.told shows.fate;
}

-- ---- CALLS THAT WERE REFUSED

-- a call of the history ended so, with an operation of its entry
pub record EndedAt (g : Past) (call : ℕ) (e : Entry) (r : Refusal) : Type 0 where
  pub of_lane : (g.drew call).fixed.lane ≡ e.call.lane
  pub ended : EndedAs r (g.drew call).call
  pub among : Contains e.call.operations ended.operation

pub last_has : (told : List Told) (t : Told) → last_of told ≡ Some t → Has told t
last_has [] t is = absurd cc
last_has (s ∷ told) t is = by (last_of told) refl is (last_has told t)
  where
    by : (o : Option Told) → last_of told ≡ o → last_or s o ≡ Some t
        → (last_of told ≡ Some t → Has told t) → Has (s ∷ told) t
    by None same here rest = inl (let e : Some s ≡ Some t = here in cc)
    by (Some u) same here rest = inr (rest (same ∙ here))

shown_has : (call : Call) (reply : Reply) (lane : ℕ) (told : List Told) (t : Told) → IsShown call reply (run_of lane told) → Has told t → Contains call.operations t.operation
shown_has call reply lane told t shown there =
    let ran : Has (run_of lane told).operations (ran_of t) = map_has ran_of told t there in
    let among : Has call.operations t.operation = subst (λ (ops : List Operation). Has ops t.operation) shown.operations
    (has_left (map (λ (r : Ran). r.operation) (run_of lane told).operations) shown.passed_over t.operation
    (map_has (λ (r : Ran). r.operation) (run_of lane told).operations (ran_of t) ran)) in
    let p = place_of call.operations t.operation among in
    (p.at, p.low, p.is _)

-- ---- NUMBERS AND PLACES

bound : (xs : List Entry) (n : ℕ) → ((i : ℕ) (d : Entry) → i < length xs → i < n) → length xs ≤ n
bound [] n each = omega arith
bound (e ∷ xs) n each = let low = each (length xs) e (omega arith) in omega (arith, low)

reach : (n most : ℕ) → ((i : ℕ) → i < n → suc i ≤ most) → n ≤ most
reach zero most each = omega arith
reach (suc n) most each = each n (omega arith)

rises_by_place : (xs : List Entry) (base : ℕ) → ((i : ℕ) (d : Entry) → i < length xs → (get_or xs i d).number ≡ i + base) → Rises number_of xs
rises_by_place [] base each = tt
rises_by_place (x ∷ xs) base each = (
  λ y there.
      let p = place_of xs y there in
      let low : p.at < length xs = p.low in
      let here : x.number ≡ 0 + base = each 0 x (omega arith) in
      let so = each (suc p.at) x (omega arith) in
      let is : (get_or xs p.at x).number ≡ y.number = ap number_of (p.is x) in
      omega (arith, here, so, is),
  rises_by_place xs (suc base) (λ i d low. let so = each (suc i) d (omega arith) in omega (arith, so)),
)

keeps_step : {X Y : Type 0} (R : X → Y → Type 0) (xs : List X) (ys : List Y) (x : X) (y : Y) (b c : Bool) → b ≡ c → AllZip R xs ys → R x y → AllZip R (xs ++ cond b (x ∷ []) []) (cond c (ys ++ y ∷ []) ys)
keeps_step {X} {Y} R xs ys x y b true is zip one = subst (λ (l : List X). AllZip R (xs ++ l) (ys ++ y ∷ [])) (sym (ap (λ t. cond t (x ∷ []) []) is)) (zip_push R xs ys x y zip one)
keeps_step {X} {Y} R xs ys x y b false is zip one = subst (λ (l : List X). AllZip R (xs ++ l) ys) (sym (ap (λ t. cond t (x ∷ []) []) is)) (subst (λ (l : List X). AllZip R l ys) (sym (append-nil xs)) zip)

not_twice : (b c : Bool) → b ≡ not c → not b ≡ c
not_twice b true is = ap not is
not_twice b false is = ap not is

-- ---- ALL LANES

module _ (g : Past) (keep : ℕ → Bool) (lanes : ℕ) (of_lanes : (n : ℕ) → n < g.length → (g.drew n).fixed.lane < lanes)
    (es : ℕ → List Entry) (says : (k : ℕ) → k < lanes → LaneSays g keep k (es k)) where
  abbrev ended_at : ℕ → Ended
  ended_at n = ended_of (entry_drawn n (g.drew n))

  record IsTold (k : ℕ) (e : Entry) : Type 0 where
    pub call : ℕ
    pub low : call < g.length
    pub of_lane : (g.drew call).fixed.lane ≡ k
    pub number : e.number ≡ suc call
    pub shows : Shows k e (ended_at call)

  is_told : (k : ℕ) → k < lanes → (e : Entry) → Has (es k) e → IsTold k e
  is_told k low e there =
      let p = zip_left (Shows k) (es k) (told_by_lane k g) (says k low).shows e there in
      let back : Has (map ended_of (numbered_by k g.drew g.length)) p.other = in_reverse (map ended_of (numbered_by k g.drew g.length)) p.other p.there in
      let m = in_map ended_of (numbered_by k g.drew g.length) p.other back in
      let d = in_numbered k g.drew g.length m.of m.there in
      let same : p.other ≡ ended_at d.call = sym m.is ∙ ap ended_of d.is in
      record {
        call = d.call;
        low = d.low;
        of_lane = d.of_lane;
        number = p.pair.number ∙ ap number_ended same;
        shows = subst (λ (x : Ended). Shows k e x) same p.pair;
      }

  record IsReported (n : ℕ) : Type 0 where
    pub entry : Entry
    pub there : Has (es (g.drew n).fixed.lane) entry
    pub number : entry.number ≡ suc n

  is_reported : (n : ℕ) → n < g.length → IsReported n
  is_reported n low =
      let k = (g.drew n).fixed.lane in
      let among : Has (told_by_lane k g) (ended_at n) = reverse_has (map ended_of (numbered_by k g.drew g.length)) (ended_at n)
      (map_has ended_of (numbered_by k g.drew g.length) (entry_drawn n (g.drew n)) (numbered_has k g.drew g.length n low refl)) in
      let p = zip_right (Shows k) (es k) (told_by_lane k g) (says k (of_lanes n low)).shows (ended_at n) among in
      record { entry = p.other; there = p.there; number = p.pair.number }

  -- the numbers of all lanes' entries are those from 1 on
  pub least_number : (k : ℕ) → k < lanes → (e : Entry) → Has (es k) e → 1 ≤ e.number
  least_number k low e there = let is = (is_told k low e there).number in omega (arith, is)

  pub number_below : (k : ℕ) → k < lanes → (e : Entry) → Has (es k) e → (n : ℕ) → 1 ≤ n → n ≤ e.number → NumberOf lanes es n
  number_below k low e there zero some most = absurd (omega (arith, some))
  number_below k low e there (suc n) some most =
      let t = is_told k low e there in
      let is : e.number ≡ suc t.call = t.number in
      let inside : t.call < g.length = t.low in
      let less : n < g.length = omega (arith, is, inside, most) in
      let r = is_reported n less in
      record { lane = (g.drew n).fixed.lane; low = of_lanes n less; entry = r.entry; there = r.there; number = r.number }

  lane_rises : (k : ℕ) → k < lanes → Rises number_of (es k)
  lane_rises k low = shown_rise g k (es k) (says k low).shows

  module _ (entries : List Entry) (order : InOrder lanes es entries) where
    -- what stands at a place
    record StandsAt (i : ℕ) (e : Entry) : Type 0 where
      pub lane : ℕ
      pub low : lane < lanes
      pub there : Has (es lane) e
      pub number : e.number ≡ suc i
      pub inside : i < g.length
      pub of_lane : (g.drew i).fixed.lane ≡ lane
      pub shows : Shows lane e (ended_at i)

    at_place : (i : ℕ) (e : Entry) → e.number ≡ i + 1 → OfSome lanes es e → StandsAt i e
    at_place i e number o =
        let t = is_told o.lane o.low e o.there in
        let said : e.number ≡ suc t.call = t.number in
        let same : t.call ≡ i = omega (arith, number, said) in
        record {
          lane = o.lane;
          low = o.low;
          there = o.there;
          number = omega (arith, number);
          inside = subst (λ n. n < g.length) same t.low;
          of_lane = ap (λ n. (g.drew n).fixed.lane) (sym same) ∙ t.of_lane;
          shows = subst (λ n. Shows o.lane e (ended_at n)) same t.shows;
        }

    stands_at : (i : ℕ) (d : Entry) → i < length entries → StandsAt i (get_or entries i d)
    stands_at i d low = at_place i (get_or entries i d) (order.numbers i d low) (order.each i d low)

    pub as_long : length entries ≡ g.length
    as_long =
        let most : length entries ≤ g.length = bound entries g.length (λ i d low. (stands_at i d low).inside) in
        let least : g.length ≤ length entries = reach g.length (length entries)
        (λ n low.
        let r = is_reported n low in
        let fits = (order.all (g.drew n).fixed.lane (of_lanes n low) r.entry r.there).1 in
        let is : r.entry.number ≡ suc n = r.number in
        omega (arith, fits, is)) in
        omega (arith, most, least)

    -- an entry is of its call's lane, and has its operations
    pub lane_at : (i : ℕ) (d : Entry) → i < length entries → (get_or entries i d).call.lane ≡ (g.drew i).fixed.lane
    lane_at i d low = let s = stands_at i d low in s.shows.lane_is ∙ sym s.of_lane

    pub has_operation : (i : ℕ) (d : Entry) → i < length entries → (t : Told) → Has (g.drew i).call t → Contains (get_or entries i d).call.operations t.operation
    has_operation i d low t there =
        let s = stands_at i d low in
        shown_has (get_or entries i d).call (get_or entries i d).reply s.lane (g.drew i).call t s.shows.shown there

    -- ---- CALLS THAT WERE REFUSED

    pub refused_at : (i : ℕ) (d : Entry) (r : Refusal) → i < length entries → refused_as (get_or entries i d).fate ≡ Some r → EndedAt g i (get_or entries i d) r
    refused_at i d r low is =
        let s = stands_at i d low in
        let ended = s.shows.ended r is in
        record {
          of_lane = s.of_lane ∙ sym s.shows.lane_is;
          ended = ended;
          among = shown_has (get_or entries i d).call (get_or entries i d).reply s.lane (g.drew i).call (record { operation = ended.operation; reply = Some (Refused r) }) s.shows.shown (last_has (g.drew i).call (record { operation = ended.operation; reply = Some (Refused r) }) ended.last);
        }

    -- ---- THE HISTORY

    pub are_history : IsHistory entries
    are_history = record {
      numbered = order.numbers;
      answered = λ j k d less low same.
          let high : j < length entries = omega (arith, less, low) in
          let one = stands_at j d high in
          let two = stands_at k d low in
          let lane_is : one.lane ≡ two.lane = sym one.shows.lane_is ∙ same ∙ two.shows.lane_is in
          let first : (get_or entries j d).number ≡ suc j = one.number in
          let next : (get_or entries k d).number ≡ suc k = two.number in
          (says two.lane two.low).open_last (get_or entries j d) (get_or entries k d)
          (subst (λ l. Has (es l) (get_or entries j d)) lane_is one.there) two.there
          (omega (arith, less, first, next));
    }

    -- ---- EACH LANE'S ENTRIES

    abbrev is_of : ℕ → Entry → Bool
    is_of k e = e.call.lane == k

    to_lane : (k : ℕ) (e : Entry) → Has (filter (is_of k) entries) e → Has (es k) e
    to_lane k e there =
        let f = in_filter (is_of k) entries e there in
        let p = place_of entries e f.0 in
        let s = stands_at p.at e p.low in
        let at : Has (es s.lane) e = subst (λ (x : Entry). Has (es s.lane) x) (p.is e) s.there in
        let lane_is : (get_or entries p.at e).call.lane ≡ e.call.lane = ap (λ (x : Entry). x.call.lane) (p.is e) in
        subst (λ l. Has (es l) e) (sym s.shows.lane_is ∙ lane_is ∙ eqb-true e.call.lane k f.1) at

    from_lane : (k : ℕ) → k < lanes → (e : Entry) → Has (es k) e → Has (filter (is_of k) entries) e
    from_lane k low e there =
        let t = is_told k low e there in
        let inside : t.call < length entries = subst (λ n. t.call < n) (sym as_long) t.low in
        let s = stands_at t.call e inside in
        let lane_is : s.lane ≡ k = sym s.of_lane ∙ t.of_lane in
        let same : get_or entries t.call e ≡ e = one_of_number number_of (es k) (get_or entries t.call e) e (lane_rises k low)
        (subst (λ l. Has (es l) (get_or entries t.call e)) lane_is s.there) there (s.number ∙ sym t.number) in
        filter_has (is_of k) entries e (has_at entries t.call e e inside same) (eq-eqb e.call.lane k t.shows.lane_is)

    pub are_of_lane : (k : ℕ) → k < lanes → entries_of_lane k entries ≡ es k
    are_of_lane k low = same_rising number_of (filter (is_of k) entries) (es k)
        (filter_rises number_of (is_of k) entries (rises_by_place entries 1 order.numbers)) (lane_rises k low)
        (to_lane k) (from_lane k low)

    -- ---- THE CALLS THAT ARE KEPT

    counts : Entry → Bool
    counts e = not (is_lost e.fate)

    kept_up_to : (d : Entry) (n : ℕ) → n ≤ length entries → AllZip ShowsCall (filter (λ (e : Entry). not (is_lost e.fate)) (take n entries)) (kept_calls keep g.drew n)
    kept_up_to d zero low = tt
    kept_up_to d (suc n) low =
        let inside : n < length entries = omega (arith, low) in
        let s = stands_at n d inside in
        let e = get_or entries n d in
        let lost : is_lost e.fate ≡ not (keep n) = (says s.lane s.low).fates e n s.there s.number s.inside s.of_lane in
        let shows : ShowsCall e (g.drew n) = record {
          shown = subst (λ l. IsShown e.call e.reply (run_of l (g.drew n).call)) (sym s.of_lane) s.shows.shown;
          fate = s.shows.fate;
        } in
        let up : AllZip ShowsCall (filter (λ (e : Entry). not (is_lost e.fate)) (take n entries)) (kept_calls keep g.drew n) = kept_up_to d n (omega (arith, low)) in
        let more : n + 1 ≡ suc n = omega arith in
        let split : filter (λ (e : Entry). not (is_lost e.fate)) (take (suc n) entries) ≡ filter (λ (e : Entry). not (is_lost e.fate)) (take n entries) ++ cond (not (is_lost e.fate)) (e ∷ []) [] =
        subst (λ m. filter (λ (e : Entry). not (is_lost e.fate)) (take m entries) ≡ filter (λ (e : Entry). not (is_lost e.fate)) (take n entries) ++ cond (not (is_lost e.fate)) (e ∷ []) []) more
        (filter_more (λ (e : Entry). not (is_lost e.fate)) entries n d inside) in
        subst (λ (l : List Entry). AllZip ShowsCall l (kept_calls keep g.drew (suc n))) (sym split)
        (keeps_step ShowsCall (filter (λ (e : Entry). not (is_lost e.fate)) (take n entries)) (kept_calls keep g.drew n) e (g.drew n) (not (is_lost e.fate)) (keep n) (not_twice (is_lost e.fate) (keep n) lost) up shows)

    -- the entries up to a number show the calls up to it that are kept
    pub entries_up_to : (d : Entry) (n : ℕ) → n ≤ length entries → (runs : List CallRun) → AllZip IsRunOf (kept_calls keep g.drew n) runs → AllZip IsEntry (without_lost (take n entries)) runs
    entries_up_to d n low runs are =
        zip_through ShowsCall IsRunOf IsEntry is_entry (without_lost (take n entries)) (kept_calls keep g.drew n) runs (kept_up_to d n low) are

    all_kept : (xs : List Entry) → xs ≡ entries → AllZip ShowsCall (without_lost entries) (kept_calls keep g.drew (length entries))
    all_kept [] is =
        subst (λ (l : List Entry). AllZip ShowsCall (without_lost l) (kept_calls keep g.drew (length l))) is tt
    all_kept (d ∷ xs) is =
        subst (λ (l : List Entry). AllZip ShowsCall (filter (λ (e : Entry). not (is_lost e.fate)) l) (kept_calls keep g.drew (length entries)))
        (take_all (length entries) entries (omega arith)) (kept_up_to d (length entries) (omega arith))

    pub are_entries : (runs : List CallRun) → AllZip IsRunOf (kept_calls keep g.drew g.length) runs → AllZip IsEntry (without_lost entries) runs
    are_entries runs are =
        zip_through ShowsCall IsRunOf IsEntry is_entry (without_lost entries) (kept_calls keep g.drew g.length) runs
        (subst (λ n. AllZip ShowsCall (without_lost entries) (kept_calls keep g.drew n)) as_long (all_kept entries refl)) are
