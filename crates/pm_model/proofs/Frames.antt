-- A call reads and changes its parts alone, and a state is known name by name.
use Rattle.std.proofs.Common.{◌≡◌, ⊎_elim, ◌⊎◌, inl, inr, ℕ, List, [], ◌∷◌, Bool, true, false, not, cond, eqb, ◌&&◌, ◌||◌, Option, refl, sym, ◌∙◌, ap, subst, eq-eqb}
use Rattle.std.specs.List.{filter}
use Rattle.std.proofs.lemmas.Bool.{and_from, and_parts, cases_Bool, false≢true, false_from_ne_true, or_cases, or_left, or_right}
use Rattle.pm_objects.specs.declared.calls.Want.{Want}
use Rattle.pm_model.specs.Items.{Item, PlainPool, is_root}
use Rattle.pm_model.specs.Blocks.{Block, are_covered, covers, item_covers}
use Rattle.pm_model.specs.Pending.{Pending}
use Rattle.pm_model.specs.Transaction.{Transaction, idle, is_working, pool_of}
use Rattle.pm_model.specs.Inside.{Ran}
use Rattle.pm_model.specs.Outside.{Outside, RepliesOutside, after_outside}
use Rattle.pm_model.specs.Parts.{Parts, parts_inside, parts_outside}
use Rattle.pm_model.specs.CallStep.{CallRun, CallStep, Runs, State, is_transaction, outside_of, state_with, with_pending}
use Rattle.pm_model.specs.Framed.{IsUnwritten, MayBeLeftOut}
use Rattle.pm_model.specs.Names.{Apart, ApartFromAll, IsFramedCall, Name, Replays, content, has_block, locks_object, touches, writes}
use Rattle.pm_model.specs.Names.Name.{Fixed, RootWord, ObjectAt, LineAt, PendingOf}
use Rattle.pm_model.specs.Names.Content.{FixedIs, RootIs, ObjectIs, LineIs, PendingIs}
use Rattle.pm_model.proofs.Changing as changing
use Rattle.pm_model.proofs.Lists.{IsIn, each_in, each_weaker}
use Rattle.pm_model.proofs.Edits.{HasLines, mixed, mixed_in, mixed_out}
use Rattle.pm_model.proofs.Locking.{list_any_weaker}
use Rattle.pm_model.proofs.Fitting.{FitsTx, Within, WithinB, WithinT}
use Rattle.pm_model.proofs.Over.{transaction_there}
use Rattle.pm_model.proofs.Beside.{beside}

-- ---- what a call's parts say of objects and lines

abbrev touched_of : Parts → ℕ → Bool
touched_of p x = locks_object p x false || has_block p x

abbrev written_of : Parts → ℕ → Bool
written_of p x = locks_object p x true || has_block p x

abbrev lines_of : Parts → ℕ → Bool
lines_of p l = are_covered p.blocks l

to_read : (one other : Bool) → (one && (other || not true)) ≡ true
    → (one && (other || not false)) ≡ true
to_read one other holds = and_from one (other || true)
    (and_parts one (other || not true) holds).0 (or_right other true refl)

written_touched : (p : Parts) (x : ℕ) → written_of p x ≡ true → touched_of p x ≡ true
written_touched p x w = ⊎_elim
    (λ (l : locks_object p x true ≡ true). or_left (locks_object p x false) (has_block p x)
    (list_any_weaker (λ (want : Want). eqb want.id.off x && (want.write || not true))
    (λ (want : Want). eqb want.id.off x && (want.write || not false)) p.locks
    (λ want. to_read (eqb want.id.off x) want.write) l))
    (λ (b : has_block p x ≡ true). or_right (locks_object p x false) (has_block p x) b)
    (or_cases (locks_object p x true) (has_block p x) w)

parts_within : (p : Parts) → Within (touched_of p) (written_of p) (lines_of p) p
parts_within p = record {
  locks = each_weaker (IsIn p.locks) (WithinT (touched_of p) (written_of p)) p.locks
      (λ w is. (
        or_left (locks_object p w.id.off false) (has_block p w.id.off)
            (is (λ (want : Want). eqb want.id.off w.id.off && (want.write || not false))
            (and_from (eqb w.id.off w.id.off) (w.write || true)
            (eq-eqb w.id.off w.id.off refl) (or_right w.write true refl))),
        λ e. or_left (locks_object p w.id.off true) (has_block p w.id.off)
            (is (λ (want : Want). eqb want.id.off w.id.off && (want.write || not true))
            (and_from (eqb w.id.off w.id.off) (w.write || false)
            (eq-eqb w.id.off w.id.off refl) (or_left w.write false e))),
      ))
      (each_in p.locks);
  blocks = each_weaker (IsIn p.blocks) (WithinB (written_of p) (lines_of p)) p.blocks
      (λ b is. (
        or_right (locks_object p b.off true) (has_block p b.off)
            (is (λ (c : Block). eqb c.off b.off) (eq-eqb b.off b.off refl)),
        λ l c. is (λ (d : Block). covers d l) c,
      ))
      (each_in p.blocks);
}

pub touched : (run : CallRun) (n : Name) → writes run n ≡ true → touches run n ≡ true
touched run Fixed w = refl
touched run RootWord w = or_left run.parts.writes_root run.parts.reads_root w
touched run (ObjectAt off) w = written_touched run.parts off w
touched run (LineAt l) w = w
touched run (PendingOf lane) w = w

-- ---- what equal contents say

same_item : (one other : Option Item) (b c : Bool) → ObjectIs one b ≡ ObjectIs other c
    → one ≡ other
same_item one other b c same = cc

same_rooted : (one other : Option Item) (b c : Bool) → ObjectIs one b ≡ ObjectIs other c → b ≡ c
same_rooted one other b c same = cc

same_lines : (f g : ℕ → Bool) → LineIs f ≡ LineIs g → f ≡ g
same_lines f g same = cc

same_word : (one other : Option ℕ) → RootIs one ≡ RootIs other → one ≡ other
same_word one other same = cc

same_pending : (one other : Pending) → PendingIs one ≡ PendingIs other → one ≡ other
same_pending one other same = cc

same_fixed : (p q : PlainPool)
    → FixedIs q.id q.name q.lanes q.zones ≡ FixedIs p.id p.name p.lanes p.zones
    → q ≡ record p { items = q.items; root = q.root }
same_fixed p q same =
    let ids : q.id ≡ p.id = cc in
    let names : q.name ≡ p.name = cc in
    let lanes : q.lanes ≡ p.lanes = cc in
    let zones : q.zones ≡ p.zones = cc in
    (λ i. record {
      id = ids i;
      name = names i;
      lanes = lanes i;
      zones = zones i;
      items = q.items;
      root = q.root;
    })

-- a state is known by what it has under each name
pub same_state : (s t : State) → ((n : Name) → content s n ≡ content t n) → s ≡ t
same_state s t same =
    let fixed : s.pool ≡ record t.pool {
      items = s.pool.items;
      root = s.pool.root;
    } = same_fixed t.pool s.pool (same Fixed) in
    let items : (x : ℕ)
    → s.pool.items x ≡ t.pool.items x = λ x. same_item (s.pool.items x) (t.pool.items x)
    (is_root s.pool.root x) (is_root t.pool.root x) (same (ObjectAt x)) in
    let root : s.pool.root ≡ t.pool.root = same_word s.pool.root t.pool.root (same RootWord) in
    let pending : (k : ℕ)
    → s.pending k ≡ t.pending k = λ k. same_pending (s.pending k) (t.pending k)
    (same (PendingOf k)) in
    (λ i. record s { pool = fixed i })
    ∙ (λ i. record {
      pool = record t.pool { items = λ x. items x i; root = root i };
      pending = λ k. pending k i;
    })

-- ---- what a call keeps

own_lane : (pending : ℕ → Pending) (lane k : ℕ) (p : Pending) → eqb k lane ≡ true
    → with_pending pending lane p k ≡ p
own_lane pending lane k p same = ap (λ (b : Bool). cond b p (pending k)) same

other_lane : (pending : ℕ → Pending) (lane k : ℕ) (p : Pending) → eqb k lane ≡ false
    → with_pending pending lane p k ≡ pending k
other_lane pending lane k p other = ap (λ (b : Bool). cond b p (pending k)) other

-- what a call left of a pool
record Keeps (p : Parts) (before after : PlainPool) : Type 0 where
  pub fixed : after ≡ record before { items = after.items; root = after.root }
  pub lines : HasLines (lines_of p) before.items after.items
  pub stays : (x : ℕ) → written_of p x ≡ false → after.items x ≡ before.items x
  pub root_stays : (x : ℕ) → written_of p x ≡ false → is_root after.root x ≡ is_root before.root x
  pub root_word : p.writes_root ≡ false → after.root ≡ before.root

-- what it left of another pool, with the same at its parts
record Alike (p : Parts) (before after other next : PlainPool) : Type 0 where
  pub pool : next ≡ record other {
    items = mixed (touched_of p) other.items after.items;
    root = next.root;
  }
  pub root : (next.root ≡ after.root) ⊎ ((next.root ≡ other.root) × (after.root ≡ before.root))

-- the other pool has the same at the parts
record SameAt (p : Parts) (before other : PlainPool) : Type 0 where
  pub fixed : other ≡ record before { items = other.items; root = other.root }
  pub items : (x : ℕ) → touched_of p x ≡ true → other.items x ≡ before.items x
  pub roots : (x : ℕ) → touched_of p x ≡ true → is_root other.root x ≡ is_root before.root x
  pub lines : (l x : ℕ) → lines_of p l ≡ true
      → item_covers x (other.items x) l ≡ item_covers x (before.items x) l
  pub word : (p.writes_root || p.reads_root) ≡ true → other.root ≡ before.root

same_at : (run : CallRun) (s other : State)
    → ((n : Name) → touches run n ≡ true → content other n ≡ content s n)
    → SameAt run.parts s.pool other.pool
same_at run s other same = record {
  fixed = same_fixed s.pool other.pool (same Fixed refl);
  items = λ x t. same_item (other.pool.items x) (s.pool.items x) (is_root other.pool.root x)
      (is_root s.pool.root x) (same (ObjectAt x) t);
  roots = λ x t. same_rooted (other.pool.items x) (s.pool.items x) (is_root other.pool.root x)
      (is_root s.pool.root x) (same (ObjectAt x) t);
  lines = λ l x b. ap (λ (f : ℕ → Bool). f x)
      (same_lines (λ off. item_covers off (other.pool.items off) l)
      (λ off. item_covers off (s.pool.items off) l) (same (LineAt l) b));
  word = λ e. same_word other.pool.root s.pool.root (same RootWord e);
}

-- a pool is the same as itself
same_self : (p : Parts) (pool : PlainPool) → SameAt p pool pool
same_self p pool = record {
  fixed = refl;
  items = λ x t. refl;
  roots = λ x t. refl;
  lines = λ l x b. refl;
  word = λ e. refl;
}

-- what both kinds of call show: they keep what is not written, and go alike from another pool
abbrev Shows : CallRun → PlainPool → Pending → PlainPool → Pending → Type 0
Shows run before pending after left =
    Keeps run.parts before after
    × ((s : State) (other : PlainPool) → SameAt run.parts before other → s.pool ≡ other
    → s.pending run.lane ≡ pending
    → (next : PlainPool)
    × CallStep s run (state_with s run.lane (record { pool = next; pending = left }))
    × Alike run.parts before after other next)

by_transaction : (run : CallRun) (here : PlainPool) (pending : Pending) (last : Transaction)
    → is_transaction run.operations ≡ true → is_working last.stage ≡ false
    → Runs (idle here pending) run.operations last
    → run.parts ≡ parts_inside (idle here pending) run.operations
    → Shows run here pending (pool_of last) last.pending
by_transaction run here pending last begins over runs parts =
    let p : Parts = run.parts in
    let within : Within (touched_of p) (written_of p) (lines_of p)
    (parts_inside (idle here pending) run.operations) =
    subst (Within (touched_of p) (written_of p) (lines_of p)) parts (parts_within p) in
    let mine = transaction_there here here.items here.root (touched_of p) (written_of p)
    (lines_of p) (written_touched p) (λ x t. refl) (λ x t. refl)
    (λ l x b. refl) run.operations pending last within runs in
    let fits : FitsTx (touched_of p) (written_of p) (lines_of p) here last = mine.2 in
    let before : last.before ≡ here = mine.3 in (
      record {
        fixed = λ i. record (before i) { items = last.items; root = last.before.root };
        lines = fits.lines;
        stays = fits.stays;
        root_stays = λ x out. ap (λ (q : PlainPool). is_root q.root x) before;
        root_word = λ e. ap (λ (q : PlainPool). q.root) before;
      },
      λ s other same is pending_is.
          let there : PlainPool = record here { items = other.items; root = other.root } in
          let run_there = transaction_there here other.items other.root (touched_of p)
          (written_of p) (lines_of p)
          (written_touched p) same.items same.roots same.lines run.operations pending last within runs in
          let end : Transaction = record last {
            before = there;
            items = mixed (touched_of p) other.items last.items;
          } in
          let from : idle there pending ≡ idle s.pool (s.pending run.lane) = λ i. idle
          ((sym same.fixed ∙ sym is) i) (sym pending_is i) in (
            pool_of end,
            inl (record {
              last = end;
              begins = begins;
              over = over;
              runs = subst (λ (t : Transaction). Runs t run.operations end) from run_there.0;
              parts = parts ∙ (sym run_there.1
                  ∙ ap (λ (t : Transaction). parts_inside t run.operations) from);
              leaves = refl;
            }),
            record {
              pool = λ i. record (sym same.fixed i) {
                items = mixed
                    (touched_of p) other.items last.items;
                root = other.root;
              };
              root = inr (refl, ap (λ (q : PlainPool). q.root) before);
            },
          ),
    )

with_left : (o : Outside) (left : Pending) → o.pending ≡ left
    → record { pool = o.pool; pending = left } ≡ o
with_left o left e = λ i. record o { pending = sym e i }

by_outside : (run : CallRun) (here : PlainPool) (pending : Pending) (ran : Ran)
    → run.operations ≡ ran ∷ [] → RepliesOutside (record { pool = here; pending = pending }) ran
    → run.parts ≡ parts_outside (record { pool = here; pending = pending }) ran
    → Shows run here pending (after_outside ran (record { pool = here; pending = pending })).pool
    (after_outside ran (record { pool = here; pending = pending })).pending
by_outside run here pending ran single replies parts =
    let p : Parts = run.parts in
    let from : Outside = record { pool = here; pending = pending } in
    let within : Within (touched_of p) (written_of p) (lines_of p)
    (parts_outside from ran) = subst
    (Within (touched_of p) (written_of p) (lines_of p)) parts (parts_within p) in
    let self : SameAt p here here = same_self p here in
    let mine = beside here here.items here.root (touched_of p) (written_of p) (lines_of p)
    (written_touched p) (λ x t. refl) (λ x t. refl)
    (λ l x b. refl) ran.seen pending ran.operation ran.reply within (λ e. refl) replies in (
      record {
        fixed = mine.fixed;
        lines = mine.lines_left;
        stays = mine.stays;
        root_stays = mine.root_stays;
        root_word = λ e. mine.root_word (sym (ap (λ (q : Parts). q.writes_root) parts) ∙ e);
      },
      λ s other same is pending_is.
          let there : PlainPool = record here { items = other.items; root = other.root } in
          let away = beside here other.items other.root (touched_of p) (written_of p)
          (lines_of p) (written_touched p) same.items same.roots same.lines ran.seen pending ran.operation ran.reply within
          (λ e. same.word (ap (λ (q : Parts). q.writes_root || q.reads_root) parts ∙ e)) replies in
          let at : Outside = record { pool = there; pending = pending } in
          let to : at ≡ record {
            pool = s.pool;
            pending = s.pending run.lane;
          } = λ i. record {
            pool = (sym same.fixed ∙ sym is) i;
            pending = sym pending_is i;
          } in
          let next : PlainPool = (after_outside ran at).pool in (
            next,
            inr (record {
              ran = ran;
              single = single;
              replies = subst (λ (o : Outside). RepliesOutside o ran) to away.replies;
              parts = parts ∙ (sym away.parts ∙ ap (λ (o : Outside). parts_outside o ran) to);
              leaves = ap (state_with s run.lane)
                  (with_left (after_outside ran at)
                  (after_outside ran from).pending away.pending ∙ ap (after_outside ran) to);
            }),
            record {
              pool = away.pool ∙ (λ i. record
                  (sym same.fixed i) {
                    items = mixed (touched_of p) other.items
                        (after_outside ran from).pool.items;
                    root = next.root;
                  });
              root = away.root_left;
            },
          ),
    )

record Shown (run : CallRun) (s t : State) : Type 0 where
  pub after : PlainPool
  pub left : Pending
  pub is : t ≡ state_with s run.lane (record { pool = after; pending = left })
  pub shows : Shows run s.pool (s.pending run.lane) after left

shown : (run : CallRun) (s t : State) → CallStep s run t → Shown run s t
shown run s t (inl step) = record {
  after = pool_of step.last;
  left = step.last.pending;
  is = step.leaves;
  shows = by_transaction run s.pool
      (s.pending run.lane) step.last step.begins step.over step.runs step.parts;
}
shown run s t (inr step) = record {
  after = (after_outside step.ran (outside_of s run.lane)).pool;
  left = (after_outside step.ran (outside_of s run.lane)).pending;
  is = step.leaves;
  shows = by_outside run s.pool (s.pending run.lane) step.ran step.single step.replies step.parts;
}

kept : (run : CallRun) (s : State) (after : PlainPool) (left : Pending)
    → Keeps run.parts s.pool after → (n : Name) → writes run n ≡ false
    → content (state_with s run.lane (record { pool = after; pending = left })) n ≡ content s n
kept run s after left keeps Fixed out =
    ap (λ (q : PlainPool). FixedIs q.id q.name q.lanes q.zones) keeps.fixed
kept run s after left keeps RootWord out = ap RootIs (keeps.root_word out)
kept run s after left keeps (ObjectAt x) out =
    (λ i. ObjectIs (keeps.stays x out i) (keeps.root_stays x out i))
kept run s after left keeps (LineAt l) out = (λ i. LineIs (λ x. keeps.lines l x out i))
kept run s after left keeps (PendingOf lane) out =
    ap PendingIs (other_lane s.pending run.lane lane left out)

alike_written : (run : CallRun) (s other : State) (after next : PlainPool) (left : Pending)
    → Keeps run.parts s.pool after → SameAt run.parts s.pool other.pool
    → Alike run.parts s.pool after other.pool next → (n : Name) → writes run n ≡ true
    → content (state_with other run.lane (record { pool = next; pending = left })) n ≡ content
    (state_with s run.lane (record { pool = after; pending = left })) n
alike_written run s other after next left keeps at alike Fixed w = absurd (false≢true w)
alike_written run s other after next left keeps at alike RootWord w =
    ap RootIs (⊎_elim (λ (e : next.root ≡ after.root). e)
    (λ (e : (next.root ≡ other.pool.root) × (after.root ≡ s.pool.root)). e.0
    ∙ (at.word (or_left run.parts.writes_root run.parts.reads_root w) ∙ sym e.1)) alike.root)
alike_written run s other after next left keeps at alike (ObjectAt x) w =
    let t : touched_of run.parts x ≡ true = written_touched run.parts x w in
    let item : next.items x ≡ after.items x = ap (λ (q : PlainPool). q.items x) alike.pool
    ∙ mixed_in (touched_of run.parts) other.pool.items after.items x t in
    let rooted : is_root next.root x ≡ is_root after.root x =
    ⊎_elim (λ (e : next.root ≡ after.root). ap (λ (r : Option ℕ). is_root r x) e)
    (λ (e : (next.root ≡ other.pool.root) × (after.root ≡ s.pool.root)). ap
    (λ (r : Option ℕ). is_root r x) e.0
    ∙ (at.roots x t ∙ sym (ap (λ (r : Option ℕ). is_root r x) e.1))) alike.root in
    (λ i. ObjectIs (item i) (rooted i))
alike_written run s other after next left keeps at alike (LineAt l) w =
    (λ i. LineIs (λ x. line x i)) where
      T : ℕ → Bool
      T = touched_of run.parts

      unwritten : (x : ℕ) → T x ≡ false → written_of run.parts x ≡ false
      unwritten x out = false_from_ne_true (written_of run.parts x)
          (λ e. false≢true (sym out ∙ written_touched run.parts x e))

      there : (x : ℕ) → next.items x ≡ mixed T other.pool.items after.items x
      there x = ap (λ (q : PlainPool). q.items x) alike.pool

      line : (x : ℕ) → item_covers x (next.items x) l ≡ item_covers x (after.items x) l
      line x = ⊎_elim
          (λ (t : T x ≡ true). ap (λ (o : Option Item). item_covers x o l)
          (there x ∙ mixed_in T other.pool.items after.items x t))
          (λ (f : T x ≡ false). ap (λ (o : Option Item). item_covers x o l)
          (there x ∙ mixed_out T other.pool.items after.items x f)
          ∙ (at.lines l x w
          ∙ sym (ap (λ (o : Option Item). item_covers x o l) (keeps.stays x (unwritten x f)))))
          (cases_Bool (T x))
alike_written run s other after next left keeps at alike (PendingOf lane) w =
    ap PendingIs (own_lane other.pending run.lane lane left w
    ∙ sym (own_lane s.pending run.lane lane left w))

-- THE FRAME: a call reads and changes its parts alone
pub framed : (run : CallRun) → IsFramedCall run
framed run = record {
  keeps = λ s t step n out.
      let at : Shown run s t = shown run s t step in
      ap (λ (v : State). content v n) at.is ∙ kept run s at.after at.left at.shows.0 n out;
  local = λ s t other step same.
      let at : Shown run s t = shown run s t step in
      let here : SameAt run.parts s.pool other.pool = same_at run s other same in
      let pending : other.pending run.lane ≡ s.pending run.lane = same_pending
      (other.pending run.lane) (s.pending run.lane)
      (same (PendingOf run.lane) (eq-eqb run.lane run.lane refl)) in
      let end = at.shows.1 other other.pool here refl pending in (
        state_with other run.lane (record { pool = end.0; pending = at.left }),
        end.1,
        λ n w. alike_written run s other at.after end.0 at.left at.shows.0 here end.2 n w
            ∙ sym (ap (λ (v : State). content v n) at.is),
      );
}

-- ---- calls that are apart

pub change_places : (a b : CallRun) (s t u : State) → Apart a b → CallStep s a t
    → CallStep t b u → (m : State) × CallStep s b m × CallStep m a u
change_places a b s t u apart one two = changing.swapped content CallStep writes touches framed touched same_state a b s t u apart one two

pub come_last : (a : CallRun) (calls : List CallRun) (s t u : State) → ApartFromAll a calls
    → CallStep s a t → Replays t calls u
    → (m : State) × Replays s calls m × CallStep m a u
come_last a calls s t u apart one rest = changing.comes_last content CallStep writes touches framed touched same_state a calls s t u apart one rest

pub stand_earlier : (a : CallRun) (calls : List CallRun) (s m u : State) → ApartFromAll a calls
    → Replays s calls m → CallStep m a u
    → (t : State) × CallStep s a t × Replays t calls u
stand_earlier a calls s m u apart before one = changing.comes_first content CallStep writes touches framed touched same_state a calls s m u apart before one

pub leave_out : (left_out : CallRun → Bool) (calls : List CallRun) (s u : State)
    → MayBeLeftOut writes touches left_out calls → Replays s calls u
    → (m : State) × Replays s (filter (λ a. not (left_out a)) calls) m
    × ((n : Name) → IsUnwritten writes left_out calls n → content m n ≡ content u n)
leave_out left_out calls s u may replays = changing.leaves_out content CallStep writes touches framed touched same_state left_out calls s u may replays
