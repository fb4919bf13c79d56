-- A lane at work goes on as the plain model's transaction.
use Rattle.std.proofs.Common.{◌≡◌, ⊎_elim, ℕ, zero, suc, ◌+◌, ◌-◌, ◌*◌, ◌/◌, ◌%◌, ◌<◌, ◌≤◌, nat_le, nat_lt, ◌&&◌, ◌||◌, ◌==◌, arith, ne_eqb, not, Bool, true, false, cond, List, [], ◌∷◌, ◌++◌, map, Option, Some, None, refl, sym, ◌∙◌, ap, subst}
use Rattle.std.proofs.lemmas.Bool.{and_from, and_parts, both_ways, cond-false, eqb-true, le-leb, leb-true, lt-ltb, ltb-true, or_cases, or_left, or_right}
use Rattle.std.proofs.Math.Nat.{mul-div-le, mul_comm}
use Rattle.std.proofs.Math.Arith.{digits_div, digits_mod}
use Rattle.std.proofs.lemmas.List.{map-append}
use Rattle.pm_header.specs.declared.header.Header.{Header}
use Rattle.pm_objects.specs.declared.calls.Operation.{Operation}
use Rattle.pm_objects.specs.declared.pool.PoolView.{PoolView}
use Rattle.pm_model.specs.Inside.{Ran, Replies, after, is_kept_by}
use Rattle.pm_model.specs.Items.{PlainPool, plain_pool}
use Rattle.pm_model.specs.Transaction.{Transaction, idle, is_working}
use Rattle.pm_view.specs.Claims.{class, first}
use Rattle.pm_view.specs.Entries.{Entry, latest, turn}
use Rattle.pm_view.specs.Places.{Place, InRun, InHuge, Descr, RootWord, Block, Small, Big, Root, part}
use Rattle.pm_view.specs.View.{Constants, View, Told}
use Rattle.pm_world.specs.BlockLines.{AllocatedHas}
use Rattle.pm_world.specs.Lanes.{sees}
use Rattle.pm_world.specs.Memory.{bit}
use Rattle.pm_world.specs.Sights.{is_recorded, picture, sight_of}
use Rattle.pm_world.specs.States.{State, bright, bright_huge, lit, live, over, shown, size_at, val}
use Rattle.pm_crash.specs.Calls.{pending_of, told_by}
use Rattle.pm_crash.specs.Footprints.{geometry_of, has_found, is_of_object, is_run_to}
use Rattle.pm_crash.specs.OpenRuns.{AreReplies, MayFollow, after_told, no_pool}
use Rattle.pm_crash.specs.Sim.{Agrees, Came, Grows, IsAsBefore, KeepsEntries, LeadsOn, MayTell, SameBits, Sim, SimBegins, SimGoesOn, SimStays, StandIn, Tells, bits_now, change_so_far, copy_of, is_kept_block, lists_of, sees_at, tx_with, IsInObject}
use Rattle.pm_crash.specs.Spelled.{Holds}
use Rattle.pm_crash.proofs.OpenRuns.{replies_once_more, told_apart, told_once_more}
use Rattle.pm_crash.proofs.SceneSteps.{scenes_begin}
use Rattle.pm_crash.proofs.Spelling.{number_is}

-- ---- THE TRANSACTION is that of its lists

pub now_is : (v : View) (pool : PlainPool) → after_told v.call (idle pool (pending_of v.entries)) ≡ tx_with v pool (copy_of v pool)
now_is v pool = told_apart v.call (idle no_pool (pending_of v.entries)) pool pool.items

-- ---- A LANE THAT KNOWS NO LESS agrees with no more bits

some_class : (n : ℕ) → not (n == 0) ≡ true → 0 < n
some_class zero e = absurd (both_ways false refl e)
some_class (suc n) e = omega arith

pub sees_so : (v : View) (s : State) (p : Place) (b : ℕ) → sees (geometry_of v) s (sight_of v).hold p b ≡ sees_at v p b
sees_so v s (InRun c w) b = refl
sees_so v s (InHuge c w) b = refl
sees_so v s (Descr c) b = refl
sees_so v s RootWord b = refl

module _ (v next : View) (kept kept' : Bool) (keeps : KeepsEntries v next) (g : Grows v kept next kept') (classes : ℕ → ℕ) (s : State)
    (x : Agrees classes next kept' s) where
  same_live : (p : Place) (b : ℕ) → sees_at v p b ≡ true → live s (geometry_of v) (is_run_to v) p ≡ true → live s (geometry_of next) (is_run_to next) p ≡ true
  same_live (InRun c w) b t l =
      let e : class next.claims c ≡ class v.claims c = (g.sees (InRun c w) b t).1 in
      subst (λ n. live s (record { first = first next.fixed.shape next.claims; class = λ d. n }) (λ d. not (n == 0)) (InRun c w) ≡ true) (sym e) l
  same_live (InHuge c w) b t l =
      let e : first next.fixed.shape next.claims c ≡ first v.fixed.shape v.claims c = (g.sees (InHuge c w) b t).1 in
      subst (λ n. live s (record { first = λ d. n; class = class next.claims }) (is_run_to next) (InHuge c w) ≡ true) (sym e) l
  same_live (Descr c) b t l = refl
  same_live RootWord b t l = refl

  -- a place that is known to be an object's is one's
  in_object : (p : Place) (b : ℕ) → sees_at next p b ≡ true → IsInObject next p → live s (geometry_of next) (is_run_to next) p ≡ true
  in_object (InRun c w) b t y =
      let cl : ℕ = class next.claims c in
      let i : ℕ = (w / 8 - 1) / cl in
      let u = and_parts (is_run_to next c) (nat_le 8 w && nat_lt w 512) y.of_block in
      let z = and_parts (nat_le 8 w) (nat_lt w 512) u.1 in
      let from = leb-true 8 w z.0 in
      let to = ltb-true w 512 z.1 in
      let some : 0 < class next.claims c = some_class (class next.claims c) u.0 in
      let there : s (InRun c 0) i ≡ true = subst (λ n. s (InRun c 0) n ≡ true) (cond-false (w == 0) b ((w / 8 - 1) / class next.claims c) (ne_eqb w 0 (λ q. omega arith)))
      (x.found (Small c (part (class next.claims c) w b)) t) in
      let n : ℕ = class next.claims c * ((w / 8 - 1) / class next.claims c) in
      let low : class next.claims c * ((w / 8 - 1) / class next.claims c) ≤ w / 8 - 1 = mul-div-le (w / 8 - 1) (class next.claims c) in
      let at : (8 * (1 + n) + 1) / 8 - 1 ≡ n = omega arith in
      let turned : n ≡ i * cl + 0 = (let e : class next.claims c * ((w / 8 - 1) / class next.claims c) ≡ (w / 8 - 1) / class next.claims c * class next.claims c = mul_comm (class next.claims c) ((w / 8 - 1) / class next.claims c) in omega (arith, e)) in
      let over_ : ((8 * (1 + n) + 1) / 8 - 1) / cl ≡ i = ap (λ m. m / cl) (at ∙ turned) ∙ digits_div i {m = cl} {r = 0} some in
      let rest : ((8 * (1 + n) + 1) / 8 - 1) % cl ≡ 0 = ap (λ m. m % cl) (at ∙ turned) ∙ digits_mod i {m = cl} {r = 0} some in
      let header : live s (geometry_of next) (is_run_to next) (InRun c (8 * (1 + n) + 1)) ≡ true =
      and_from (is_run_to next c) (shown s cl c (8 * (1 + n) + 1)) u.0
      (or_right (8 * (1 + n) + 1 == 0) ((nat_le 8 (8 * (1 + n) + 1) && nat_lt (8 * (1 + n) + 1) 512) && bright s cl c (((8 * (1 + n) + 1) / 8 - 1) / cl) (((8 * (1 + n) + 1) / 8 - 1) % cl))
      (and_from (nat_le 8 (8 * (1 + n) + 1) && nat_lt (8 * (1 + n) + 1) 512) (bright s cl c (((8 * (1 + n) + 1) / 8 - 1) / cl) (((8 * (1 + n) + 1) / 8 - 1) % cl))
      (and_from (nat_le 8 (8 * (1 + n) + 1)) (nat_lt (8 * (1 + n) + 1) 512) (le-leb 8 (8 * (1 + n) + 1) (omega arith)) (lt-ltb (8 * (1 + n) + 1) 512 (omega arith)))
      (subst (λ m. bright s cl c m (((8 * (1 + n) + 1) / 8 - 1) % cl) ≡ true) (sym over_)
      (subst (λ m. bright s cl c i m ≡ true) (sym rest) (and_from (s (InRun c 0) i) (lit (s (size_at cl c i)) 0) there (le-leb 0 ((val (s (size_at cl c i)) 0 64 + 63) / 64) (omega arith))))))) in
      let size : val (s (size_at cl c i)) 0 64 ≡ y.size = number_is (s (size_at cl c i)) y.size y.small (λ e l.
      x.known (size_at cl c i) e (bit y.size e) (sees_so next s (size_at cl c i) e ∙ y.sees e)
      (or_right (is_recorded next.log.records (size_at cl c i)) (live s (geometry_of next) (is_run_to next) (size_at cl c i)) header) (y.sized e l)) in
      and_from (is_run_to next c) (shown s cl c w) u.0
      (or_right (w == 0) ((nat_le 8 w && nat_lt w 512) && bright s cl c ((w / 8 - 1) / cl) ((w / 8 - 1) % cl))
      (and_from (nat_le 8 w && nat_lt w 512) (bright s cl c ((w / 8 - 1) / cl) ((w / 8 - 1) % cl)) u.1
      (and_from (s (InRun c 0) i) (lit (s (size_at cl c i)) ((w / 8 - 1) % cl)) there
      (subst (λ m. nat_le ((w / 8 - 1) % cl) ((m + 63) / 64) ≡ true) (sym size) (le-leb ((w / 8 - 1) % cl) ((y.size + 63) / 64) y.has_line)))))
  in_object (InHuge c w) b t y =
      let f : ℕ = first next.fixed.shape next.claims c in
      let u = and_parts (nat_lt w 512) (first next.fixed.shape next.claims f == f) y.of_block in
      let own : first next.fixed.shape next.claims f ≡ f = eqb-true (first next.fixed.shape next.claims f) f u.1 in
      let there : s (Descr f) 1 ≡ true = x.found (Big f) t in
      let header : live s (geometry_of next) (is_run_to next) (InHuge f 1) ≡ true =
      subst (λ m. bright_huge s m (64 * (f - m) + 1 / 8) ≡ true) (sym own)
      (and_from (s (Descr f) 1) (lit (s (InHuge f 1)) (64 * (f - f) + 1 / 8)) there (le-leb (64 * (f - f) + 1 / 8) ((val (s (InHuge f 1)) 0 64 + 63) / 64) (omega arith))) in
      let size : val (s (InHuge f 1)) 0 64 ≡ y.size = number_is (s (InHuge f 1)) y.size y.small (λ e l.
      x.known (InHuge f 1) e (bit y.size e) (sees_so next s (InHuge f 1) e ∙ y.sees e)
      (or_right (is_recorded next.log.records (InHuge f 1)) (live s (geometry_of next) (is_run_to next) (InHuge f 1)) header) (y.sized e l)) in
      and_from (nat_lt w 512) (bright_huge s f (64 * (c - f) + w / 8)) u.0
      (and_from (s (Descr f) 1) (lit (s (InHuge f 1)) (64 * (c - f) + w / 8)) there
      (subst (λ m. nat_le (64 * (c - f) + w / 8) ((m + 63) / 64) ≡ true) (sym size) (le-leb (64 * (c - f) + w / 8) ((y.size + 63) / 64) y.has_line)))
  in_object (Descr c) b t y = refl
  in_object RootWord b t y = refl

  same_object : (p : Place) (b : ℕ) → sees_at v p b ≡ true → is_of_object v s p ≡ true → is_of_object next s p ≡ true
  same_object p b t o = ⊎_elim
      (λ (r : is_recorded v.log.records p ≡ true). ⊎_elim
      (λ (q : is_recorded next.log.records p ≡ true). or_left (is_recorded next.log.records p) (live s (geometry_of next) (is_run_to next) p) q)
      (λ (q : IsInObject next p). or_right (is_recorded next.log.records p) (live s (geometry_of next) (is_run_to next) p) (in_object p b (g.sees p b t).0 q))
      (g.recorded p b t r))
      (λ (l : live s (geometry_of v) (is_run_to v) p ≡ true). or_right (is_recorded next.log.records p) (live s (geometry_of next) (is_run_to next) p) (same_live p b t l))
      (or_cases (is_recorded v.log.records p) (live s (geometry_of v) (is_run_to v) p) o)

  pub agrees_back : Agrees classes v kept s
  agrees_back = record {
    found = λ B t. x.found B (g.found B t);
    spans = λ f t. x.spans f (g.found (Big f) t) ∙ g.spans f t;
    whole = λ f t. x.whole f (g.found (Big f) t);
    plain = λ c i t. x.plain c i (g.found (Small c i) t);
    class = λ c i t. x.class c i (⊎_elim
        (λ (f : has_found v (Small c i) ≡ true). or_left (has_found next (Small c i)) (is_kept_block next kept' (Small c i)) (g.found (Small c i) f))
        (λ (o : is_kept_block v kept (Small c i) ≡ true). or_right (has_found next (Small c i)) (is_kept_block next kept' (Small c i)) (g.own (Small c i) o))
        (or_cases (has_found v (Small c i)) (is_kept_block v kept (Small c i)) t)) ∙ g.class c i t;
    known = λ p b y t o e.
        let t' : sees_at v p b ≡ true = sym (sees_so v s p b) ∙ t in
        x.known p b y (sees_so next s p b ∙ (g.sees p b t').0) (same_object p b t' o) (g.knows p b y t' e);
    apart = λ B C line o a c. x.apart B C line (g.own B o) (g.lines B line o a)
        (subst (λ (f : Constants). AllocatedHas f.shape s (record { first = λ d. d; class = classes }) C line) (sym keeps.fixed) c);
    roots = record {
      same = λ l n t e. x.roots.same l n (g.roots l n t) e;
      other = λ l n t e. x.roots.other l n (g.roots l n t) e;
    };
  }

-- ---- THE BITS STAY

module _ (v next : View) (entries entries' : List Entry) (same : SameBits v entries next entries') (kept : Bool) (classes : ℕ → ℕ) (s : State) (x : Agrees classes next kept s) where
  same_bit : (p : Place) (b : ℕ) → bits_now next entries' s p b ≡ bits_now v entries s p b
  same_bit p b = ⊎_elim
      (λ (e : change_so_far next entries' p b ≡ change_so_far v entries p b). ap (λ o. over o (s p b)) e)
      (λ (n : (y : Bool) × (change_so_far v entries p b ≡ None) × (change_so_far next entries' p b ≡ Some y) × IsAsBefore next p b y).
      let y : Bool = n.0 in
      let new = n.3 in
      ap (λ o. over o (s p b)) n.2
      ∙ (sym (x.known p b y (sees_so next s p b ∙ new.sees) (or_left (is_recorded next.log.records p) (live s (geometry_of next) (is_run_to next) p) new.recorded) new.before)
      ∙ sym (ap (λ o. over o (s p b)) n.1)))
      (same p b)

  pub same_bits : bits_now next entries' s ≡ bits_now v entries s
  same_bits = λ i p b. same_bit p b i

-- ---- A CALL BEGINS

pub no_turn : (B : Block) → turn (latest []) B ≡ None
no_turn (Small c i) = refl
no_turn (Big f) = refl
no_turn Root = refl

nothing_by : {A : Type 0} (d t : Bool) (x : Option A) → t ≡ false → cond (d && t) x None ≡ None
nothing_by true t x e = ap (λ c. cond c x None) e
nothing_by false t x e = refl

pub nothing_yet : (v : View) → v.log.records ≡ [] → (p : Place) (b : ℕ) → change_so_far v [] p b ≡ None
nothing_yet v none p b =
    let B = Rattle.pm_view.specs.Places.block_of (geometry_of v) p b in
    nothing_by (Rattle.pm_view.specs.Places.is_data p) (Rattle.pm_world.specs.Sights.is_made (turn (latest []) B) || is_recorded v.log.records p) (picture v.fixed.shape v.claims p b)
    ((λ i. Rattle.pm_world.specs.Sights.is_made (no_turn B i) || is_recorded (none i) p))

begin_none : (kept : Bool) (tx : Transaction) → AreReplies kept tx []
unfolding AreReplies
begin_none kept tx = tt

told_none : (tx : Transaction) → (after_told [] tx).items ≡ tx.items
unfolding after_told
told_none tx = refl

pub sim_begins : SimBegins
sim_begins v call records = record { come = come } where
  come : (kept : Bool) (classes : ℕ → ℕ) (s : State) (header : Header) (pool : PoolView) → Agrees classes v kept s → Holds v.fixed.shape classes s header pool → header.id ≡ v.fixed.pool → Came v [] kept classes s (plain_pool pool)
  come kept classes s header pool x holds id = record {
    runs = [];
    told = sym call;
    replies = begin_none kept (idle (plain_pool pool) (pending_of v.entries));
    stands = subst (StandIn v.fixed.shape classes (bits_now v [] s)) (sym (ap (λ (t : List Told). (after_told t (idle (plain_pool pool) (pending_of v.entries))).items) call ∙ told_none (idle (plain_pool pool) (pending_of v.entries))))
        (subst (λ (t : State). StandIn v.fixed.shape classes t (plain_pool pool).items) (sym same) (scenes_begin v.fixed.shape classes s header pool holds));
  } where
    same : bits_now v [] s ≡ s
    same = λ i p b. ap (λ o. over o (s p b)) (nothing_yet v records p b) i

-- ---- A LANE THAT TELLS NOTHING

module _ (v next : View) (keeps : KeepsEntries v next) where
  pub header_back : (header : Header) → header.id ≡ next.fixed.pool → header.id ≡ v.fixed.pool
  header_back header id = id ∙ ap (λ (f : Constants). f.pool) keeps.fixed

  pub holds_back : (classes : ℕ → ℕ) (s : State) (header : Header) (pool : PoolView) → Holds next.fixed.shape classes s header pool → Holds v.fixed.shape classes s header pool
  holds_back classes s header pool = subst (λ (f : Constants). Holds f.shape classes s header pool) keeps.fixed

  same_pending : pending_of v.entries ≡ pending_of next.entries
  same_pending = ap pending_of (sym keeps.entries)

pub sim_stays : SimStays
sim_stays v next entries entries' sim keeps call grows same = record { come = come } where
  come : (kept : Bool) (classes : ℕ → ℕ) (s : State) (header : Header) (pool : PoolView) → Agrees classes next kept s → Holds next.fixed.shape classes s header pool → header.id ≡ next.fixed.pool → Came next entries' kept classes s (plain_pool pool)
  come kept classes s header pool x holds id =
      let c = sim.come kept classes s header pool (agrees_back v next kept kept keeps (grows kept) classes s x) (holds_back v next keeps classes s header pool holds) (header_back v next keeps header id) in
      let now = same_bits v next entries entries' same kept classes s x in
      let copy : copy_of v (plain_pool pool) ≡ copy_of next (plain_pool pool) = λ i. (after_told (sym call i) (idle (plain_pool pool) (same_pending v next keeps i))).items in
      record {
        runs = c.runs;
        told = c.told ∙ sym call;
        replies = subst (λ p. AreReplies kept (idle (plain_pool pool) p) c.runs) (same_pending v next keeps) c.replies;
        stands = subst (λ (f : Constants). StandIn f.shape classes (bits_now next entries' s) (copy_of next (plain_pool pool))) (sym keeps.fixed)
            (subst (λ t. StandIn v.fixed.shape classes t (copy_of next (plain_pool pool))) (sym now)
            (subst (StandIn v.fixed.shape classes (bits_now v entries s)) copy c.stands));
      }

-- ---- ONE MORE OPERATION

may_follow : (v : View) (pool : PlainPool) (runs : List Ran) → map told_by runs ≡ v.call → MayTell v → MayFollow runs (after_told (map told_by runs) (idle pool (pending_of v.entries)))
may_follow v pool [] told may = tt
may_follow v pool (r ∷ runs) told may = ⊎_elim
    (λ (none : v.call ≡ []). absurd cc)
    (λ (works : is_working (lists_of v).stage ≡ true).
    ap (λ (t : List Told). is_working (after_told t (idle pool (pending_of v.entries))).stage) told
    ∙ (ap (λ (tx : Transaction). is_working tx.stage) (now_is v pool) ∙ works))
    may

-- what agrees with the lane then agrees with it before the operation
abbrev pub AgreesBack : View → View → Operation → Type 0
AgreesBack v next op = (kept : Bool) (classes : ℕ → ℕ) (s : State) (header : Header) (pool : PoolView)
    → Agrees classes next kept s → Holds next.fixed.shape classes s header pool → Agrees classes v (is_kept_by op kept) s

pub sim_goes_back : (v next : View) (entries entries' : List Entry) (ran : Ran) → Sim v entries
    → Tells v next ran → MayTell v → AgreesBack v next ran.operation
    → ((kept : Bool) (classes : ℕ → ℕ) (s : State) (header : Header) (pool : PoolView)
    → Agrees classes next kept s → Holds next.fixed.shape classes s header pool
    → header.id ≡ next.fixed.pool
    → Came v entries (is_kept_by ran.operation kept) classes s (plain_pool pool)
    → LeadsOn v entries next entries' ran kept classes s (plain_pool pool))
    → Sim next entries'
sim_goes_back v next entries entries' ran sim tells may back owes = record { come = come } where
  come : (kept : Bool) (classes : ℕ → ℕ) (s : State) (header : Header) (pool : PoolView) → Agrees classes next kept s → Holds next.fixed.shape classes s header pool → header.id ≡ next.fixed.pool → Came next entries' kept classes s (plain_pool pool)
  come kept classes s header pool x holds id =
      let keeps = tells.keeps in
      let was : Bool = is_kept_by ran.operation kept in
      let c = sim.come was classes s header pool (back kept classes s header pool x holds) (holds_back v next keeps classes s header pool holds) (header_back v next keeps header id) in
      let leads = owes kept classes s header pool x holds id c in
      let start : Transaction = idle (plain_pool pool) (pending_of v.entries) in
      let now : after_told (map told_by c.runs) start ≡ tx_with v (plain_pool pool) (copy_of v (plain_pool pool)) = ap (λ (t : List Told). after_told t start) c.told ∙ now_is v (plain_pool pool) in
      let told : map told_by (c.runs ++ ran ∷ []) ≡ next.call = map-append told_by c.runs (ran ∷ []) ∙ (ap (λ (t : List Told). t ++ told_by ran ∷ []) c.told ∙ sym tells.call) in
      let copy : (after ran (tx_with v (plain_pool pool) (copy_of v (plain_pool pool)))).items ≡ copy_of next (plain_pool pool) =
      ap (λ (tx : Transaction). (after ran tx).items) (sym (now_is v (plain_pool pool)))
      ∙ (ap (λ (tx : Transaction). tx.items) (sym (told_once_more v.call (told_by ran) start))
      ∙ (λ i. (after_told (sym tells.call i) (idle (plain_pool pool) (same_pending v next keeps i))).items)) in
      record {
        runs = c.runs ++ ran ∷ [];
        told = told;
        replies = subst (λ p. AreReplies kept (idle (plain_pool pool) p) (c.runs ++ ran ∷ [])) (same_pending v next keeps)
            (replies_once_more kept c.runs ran start c.replies (may_follow v (plain_pool pool) c.runs c.told may) (subst (λ (tx : Transaction). Replies tx ran kept) (sym now) leads.replies));
        stands = subst (StandIn next.fixed.shape classes (bits_now next entries' s)) copy leads.stands;
      }

pub sim_goes_on : SimGoesOn
sim_goes_on v next entries entries' ran sim tells may grows owes = sim_goes_back v next entries entries' ran sim tells may
    (λ kept classes s header pool x holds. agrees_back v next (is_kept_by ran.operation kept) kept tells.keeps (grows kept) classes s x) owes
