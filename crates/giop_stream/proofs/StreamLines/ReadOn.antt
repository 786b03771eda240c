-- What is written from a checkpoint on, together with what was written before, is the whole text;
-- and how many octets a checkpoint can have.
use Rattle.std.proofs.Common.{◌≡◌, Bool, true, false, ℕ, ◌≤◌, List, [], ◌++◌, length, refl, sym, ap, append_assoc, append-nil, length-drop, arith}
use Rattle.std.specs.Prelude.{◌≢◌, Result, Ok, Err, IfOk, IfErr}
use Rattle.std.proofs.lemmas.Bool.{false≢true}
use Rattle.giop_print.specs.Output.{OutLog, Wrote}
use Rattle.giop_print.proofs.Writing.{wrote-append, wrote-front, front-append}
use Rattle.giop_sig.specs.HeaderTypes.{IsTable}
use Rattle.giop_sig.specs.Table.{Table}
use Rattle.giop_sig.specs.Trees.{catalogue_depth}
use Rattle.giop_message.specs.MessageReader.{KeepsEarlierLines, IsStreamable}
use Rattle.giop_message.specs.Signatures.{RequestTable}
use Rattle.giop_checkpoint.specs.declared.layout.Layout.{Layout}
use Rattle.giop_checkpoint.specs.declared.fixed.Fixed.{Fixed}
use Rattle.giop_checkpoint.specs.Layouts.{reads_layout}
use Rattle.giop_checkpoint.specs.Fixed.{HasRange, fixed_octets}
use Rattle.giop_checkpoint.proofs.Fronts.{front_of}
use Rattle.giop_stream.specs.Rules.{Rules, rules}
use Rattle.giop_stream.specs.Stream.{text, closing, final}
use Rattle.giop_stream.specs.declared.status.Totals.{Totals}
use Rattle.giop_stream.specs.EngineHolds.{Leaves, StopWrites, added, rules_of}
use Rattle.giop_stream.specs.EngineView.{EngineView}
use Rattle.giop_stream.specs.declared.fault.Stop.{Stop}
use Rattle.giop_stream.specs.declared.fault.Stop.TheVariants as stop
use Rattle.giop_stream.specs.Pieces.{whole_text, remaining}
use Rattle.giop_stream.specs.Checkpoint.{counts_of, fixed_of, IsPutWhole, Spells, checkpoint_limit}
use Rattle.giop_stream.proofs.StreamLines.MoreOctets.{text_adds}
use Rattle.giop_stream.proofs.Restored.LoadRanges.{fixed_range, few_slots}
use Rattle.giop_stream.proofs.Restored.SavedSizes.{HasRoom, whole_long, whole_within}

pub remains : (R : Rules) → KeepsEarlierLines R.reading → IsStreamable R.reading → (p q : List ℕ) →
    text R p ++ remaining R p q ≡ whole_text R (p ++ q)
unfolding remaining whole_text
remains R causal laws p q = search (arith, append_assoc, text_adds)

-- the finish, after the text of the octets that follow the front was written
pub going_on : {A : Type 0} (R : Rules) (p q : List ℕ) (x y z : OutLog) (ended : Result A Stop) →
    Wrote x y (added R p q) →
    StopWrites ended y z (closing R (p ++ q)) → IfErr ended (λ why. why ≢ stop.Failed) →
    StopWrites ended x z (remaining R p q)
unfolding remaining
going_on R p q x y z (Ok t) wrote ends sound = search (arith, wrote-append)
going_on R p q x y z (Err (stop.Out f)) wrote ends sound = search (arith, wrote-front)
going_on R p q x y z (Err stop.Failed) wrote ends sound = absurd (sound refl)

-- a put failed before the end
pub stopped_before : (A B : Type 0) (R : Rules) (p q : List ℕ) (x y : OutLog) (why : Stop) →
    StopWrites {A = A} (Err why) x y (added R p q) → why ≢ stop.Failed →
    StopWrites {A = B} (Err why) x y (remaining R p q)
unfolding remaining
stopped_before A B R p q x y (stop.Out f) front sound = search (arith, front-append)
stopped_before A B R p q x y stop.Failed front sound = absurd (sound refl)

-- a call of an engine that hasn't failed never returns that it had failed
pub never_failed : {A : Type 0} (r : Result A Stop) (failed : Bool) →
    (r ≡ Err stop.Failed → failed ≡ true) →
    failed ≡ false → IfErr r (λ why. why ≢ stop.Failed)
never_failed (Ok x) failed only sound = tt
never_failed (Err why) failed only sound = search (arith, false≢true)

pub leaves_sound : (A : Type 0) (why : Stop) (before after : EngineView) →
    Leaves {A = A} (Err why) before after →
    before.failed ≡ false → why ≢ stop.Failed
leaves_sound A (stop.Out f) before after leaves sound = λ is. absurd cc
leaves_sound A stop.Failed before after leaves sound = search (arith, false≢true)

-- the rules of an engine with this table and list, in which this many messages may be open
pub rules_is : (e : EngineView) (C : Table) (l : RequestTable) (n : ℕ) → e.table ≡ C →
    e.request_table ≡ l → e.most ≡ n →
    rules_of e ≡ rules C l n
rules_is e C l n table request_table most = search (arith)

-- what was written by these rules was written by equal rules
pub closing_by : {A : Type 0} (ended : Result A Stop) (x y : OutLog) (Q R : Rules) (p : List ℕ) →
    Q ≡ R →
    StopWrites ended x y (closing Q p) → StopWrites ended x y (closing R p)
closing_by ended x y Q R p same writes = search (arith)

pub remaining_by : {A : Type 0} (ended : Result A Stop) (x y : OutLog) (Q R : Rules)
    (p q : List ℕ) → Q ≡ R →
    StopWrites ended x y (remaining Q p q) → StopWrites ended x y (remaining R p q)
remaining_by ended x y Q R p q same writes = search (arith)

pub final_by : (ended : Result Totals Stop) (Q R : Rules) (p : List ℕ) → Q ≡ R →
    IfOk ended (λ t. t ≡ final Q p) → IfOk ended (λ t. t ≡ final R p)
final_by ended Q R p same totals = search (arith)

fixed_long : (layout : Layout) (f : Fixed) → reads_layout f.counts.version layout ≡ true →
    HasRange layout f → length (fixed_octets layout f) ≡ 96
fixed_long layout f is_read range =
    let front = front_of layout f.counts f (fixed_octets layout f) [] refl is_read range
    (sym (append-nil (fixed_octets layout f))) in
    omega (arith, front.ours.0, ap length front.rest, length-drop 96 (fixed_octets layout f))

spelled_read : (octets p : List ℕ) (C : Table) (l : RequestTable) (most : ℕ)
    (s : Spells octets C l most p) →
    reads_layout (fixed_of C l s.memory).counts.version s.layout ≡ true
unfolding fixed_of counts_of
spelled_read octets p C l most s = s.is_read

pub spells_within : (octets p : List ℕ) (C : Table) (l : RequestTable) (most : ℕ) →
    IsTable C → Spells octets C l most p →
    length octets ≤ checkpoint_limit most (catalogue_depth C)
spells_within octets p C l most laws s =
    let whole : IsPutWhole s.layout C l s.memory octets =
    record { entries = s.entries; are = s.entries_are; put = s.octets_are } in
    let room : HasRoom s.layout C l s.memory = record {
      fixed =
          fixed_long s.layout _ (spelled_read octets p C l most s)
          (fixed_range octets p C l most s);
      allows = rw s.limit s.allows;
      ready = s.ready;
      table = laws;
    } in
    let few = few_slots octets p C l most s in
    omega (
      arith,
      whole_long s.layout C l s.memory octets whole room,
      whole_within s.layout C l s.memory most octets whole room few,
    )
