-- Where a lane gave back what its open call uses no more, the call is under way as it was, what is reserved stands, and what the lane has bears out what the call told.
use Rattle.std.proofs.Common.{◌≡◌, inl, inr, ℕ, ◌+◌, ◌*◌, ◌<◌, List, slice_index, sym, subst, arith}
use Rattle.std.specs.List.{All, Contains}
use Rattle.std.proofs.lemmas.List.Elements.{All-contains, All-contains_itself, All-weaker, Contains-append_left, Contains-append_right}
use Rattle.pm_header.specs.declared.header.Header.{Header}
use Rattle.pm_objects.specs.declared.history.TxErr.{TxErr}
use Rattle.pm_objects.specs.declared.pool.PoolView.{PoolView}
use Rattle.pm_image.specs.Contents.{data_words, size_in}
use Rattle.solo_model.specs.declared.stage.Stage.{Stage}
use Rattle.solo_model.specs.Actions.{Action}
use Rattle.solo_view.specs.View.{View}
use Rattle.solo_crash.specs.CallBlocks.{IsMadeIn, NewObject, block_of, blocks_in, reserved_in, reserved_object}
use Rattle.solo_crash.specs.GivingUnused.{GivesUnused, in_use}
use Rattle.solo_crash.specs.OpenCall.{ComesTo, HasMade, IsBefore, IsPerformable, IsUnderBlock, IsUnderWay}
use Rattle.solo_crash.specs.Pending.{pending_in, published_in}
use Rattle.solo_crash.specs.Reserved.{IsBorneOut, IsReservedFor}
use Rattle.solo_crash.specs.Reserving.{HasReserved, StandsReserved}
use Rattle.solo_crash.proofs.CallBlocks.{fills_block}
use Rattle.solo_crash.proofs.Includes.{made_member}
use Rattle.solo_crash.proofs.NewStay.{news_in}

module _ (v next : View) (g : GivesUnused v next) where
  -- the view behind, with the same for what is the same
  abbrev given : View
  given = record next {
    lanes = v.lanes;
    zones = v.zones;
    pool = v.pool;
    lane = v.lane;
    entries = v.entries;
    call = v.call;
    locks = v.locks;
    words = v.words;
    log = record next.log { records = v.log.records; entries = v.log.entries };
  }

  is_next : given ≡ next
  is_next = (λ j. let u : View = record next {
    lanes = sym g.lanes j;
    zones = sym g.zones j;
    pool = sym g.pool j;
    lane = sym g.lane j;
    entries = sym g.entries j;
    call = sym g.call j;
    locks = sym g.locks j;
    words = sym g.words j;
    log = record next.log { records = sym g.records j; entries = sym g.entered j };
  } in u)

  -- ---- what is in use

  made_used : (n : NewObject) → Contains (news_in (blocks_in v)) n → Contains (in_use v) n
  made_used n there = Contains-append_left (news_in (blocks_in v)) (reserved_in v) n there

  pending_used : (n : NewObject) → Contains (reserved_in v) n → Contains (in_use v) n
  pending_used n there = Contains-append_right (news_in (blocks_in v)) (reserved_in v) n there

  stands_still : (n : NewObject) → Contains (in_use v) n → IsMadeIn v n → IsMadeIn given n
  stands_still n used is = record {
    behind = is.behind;
    aligned = is.aligned;
    object = is.object;
    long = is.long;
    known = λ i reads.
        let fills : 8 + data_words (size_in (slice_index v.words) (block_of n)) < 8 * (block_of n).lines + 1 = let has = fills_block v n is in omega (arith, has) in
        g.known_used n i used (is.known i reads) (record { from = reads.from; to = (let to = reads.to in omega (arith, to, fills)) });
    outside = is.outside;
  }

  still_reserved : (n : NewObject) → Contains (in_use v) n → IsReservedFor v n → IsReservedFor given n
  still_reserved n used has = subst (λ (u : View). IsReservedFor u n) (sym is_next) (g.reserved n used has)

  -- ---- the call

  under_still : (i : ℕ) → IsUnderBlock v i → IsUnderBlock given i
  under_still i under = record { lock = under.lock; lines = under.lines; held = under.held; found = under.found; from = under.from; to = under.to }

  before_given : (w : ℕ → ℕ) → IsBefore given w → IsBefore v w
  before_given w before = record {
    recorded = before.recorded;
    known = λ i known outside none under. before.known i (g.known_found i known under) outside none (under_still i under);
    found = before.found;
  }

  pub before_unused : (w : ℕ → ℕ) → IsBefore next w → IsBefore v w
  before_unused w before = before_given w (subst (λ (u : View). IsBefore u w) (sym is_next) before)

  made_still : HasMade v → HasMade given
  made_still has = record {
    each = λ n there. stands_still n (made_used n (Contains-append_left (blocks_in v).made (blocks_in v).dropped n there)) (has.each n there);
    listed = has.listed;
    kept = has.kept;
    once = has.once;
    apart_new = has.apart_new;
    apart_gone = has.apart_gone;
    apart_found = has.apart_found;
  }

  performable : (w : ℕ → ℕ) (a : Action) → IsPerformable v w a → IsPerformable given w a
  performable w a (inl can) = inl can
  performable w a (inr lies) = inr (record { new = lies.new; is_new = lies.is_new; begins = lies.begins; behind = lies.behind; inside = lies.inside; whole = lies.whole })

  comes_still : (w : ℕ → ℕ) (header : Header) (pool : PoolView) (level : ℕ) (at_stage : Stage) (error : TxErr) → ComesTo v w header pool level at_stage error → ComesTo given w header pool level at_stage error
  comes_still w header pool level at_stage error c = record {
    tx = c.tx;
    runs = c.runs;
    base = c.base;
    holds = c.holds;
    changed = record { fixed = c.changed.fixed; rising = c.changed.rising; new = c.changed.new; gone = c.changed.gone; others = c.changed.others };
    unfound = c.unfound;
    tracks = c.tracks;
    before = c.before;
    locks = c.locks;
    recorded = c.recorded;
    records = c.records;
    levels = c.levels;
    stands = c.stands;
    fails = c.fails;
    actions = c.actions;
    moved = c.moved;
    performable = All-weaker (IsPerformable v w) (IsPerformable given w) (performable w) (published_in v) c.performable;
    blocks_stay = c.blocks_stay;
    sizes_stay = c.sizes_stay;
  }

  pub under_way_unused : (level : ℕ) (at_stage : Stage) (error : TxErr) → IsUnderWay v level at_stage error → IsUnderWay next level at_stage error
  under_way_unused level at_stage error under_way = subst (λ (u : View). IsUnderWay u level at_stage error) is_next (record {
    in_lanes = under_way.in_lanes;
    few = under_way.few;
    chunks = under_way.chunks;
    outside = under_way.outside;
    under = λ i is. under_still i (under_way.under i is);
    unentered = under_way.unentered;
    has = made_still under_way.has;
    comes = λ w header pool holds id before may.
        comes_still w header pool level at_stage error (under_way.comes w header pool holds id (before_given w before) (record { room = may.room; root = may.root }));
  })

  -- ---- what is reserved, and what bears out the call

  pub reserved_unused : HasReserved v → HasReserved next
  reserved_unused has = subst HasReserved is_next (record {
    each = λ r there.
        let stands : StandsReserved v r = has.each r there in
        record { place = stands.place; made = stands_still (reserved_object r) (pending_used (reserved_object r) (made_member reserved_object (pending_in v).reserved r there)) stands.made; bytes = stands.bytes };
    once = has.once;
    apart = has.apart;
    apart_made = has.apart_made;
    apart_found = has.apart_found;
    unfreed = has.unfreed;
  })

  -- of these objects each is reserved still
  all_still : (ns : List NewObject) → ((n : NewObject) → Contains ns n → Contains (in_use v) n) → All (IsReservedFor v) ns → All (IsReservedFor given) ns
  all_still ns used each = All-weaker (Contains ns) (IsReservedFor given) (λ n there. still_reserved n (used n there) (All-contains (IsReservedFor v) ns n each there)) ns (All-contains_itself ns)

  pub borne_unused : IsBorneOut v → IsBorneOut next
  borne_unused borne = subst IsBorneOut is_next (record {
    made = all_still (news_in (blocks_in v)) made_used borne.made;
    pending = all_still (reserved_in v) pending_used borne.pending;
    free = borne.free;
    root = borne.root;
  })
