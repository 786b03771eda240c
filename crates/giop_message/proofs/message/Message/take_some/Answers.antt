use Rattle.std.proofs.Common.{◌≡◌, arith, ◌+◌, ◌∷◌, [], ◌++◌, length, take, get_or, refl, sym, ap, subst, ◌∙◌}
use Rattle.giop_print.proofs.Writing.{writes_failed, wrote-append, wrote-nil}
use Rattle.giop_decode.specs.declared.decoder.Decoder.{Decoder}
use Rattle.giop_decode.specs.DecoderState.{KeepsNoted}
use Rattle.giop_decode.specs.ReadResult.{Read}
use Rattle.giop_sig.specs.Table.{Table}
use Rattle.giop_message.specs.declared.part.Part.{Part}
use Rattle.giop_message.specs.declared.part.Part.TheVariants as parts
use Rattle.giop_message.specs.declared.part.Section.{Section}
use Rattle.giop_message.specs.Messages.{root_of}
use Rattle.giop_message.specs.MessageSteps.{HasEndedSection}
use Rattle.giop_message.specs.HeaderEnds.{header_ends, after_ends}
use Rattle.giop_message.proofs.Followings.{same_fields}
use Rattle.giop_message.proofs.Rests.{no_text, rest_text, rest_follows}
use Rattle.giop_message.proofs.HeaderEndLaws.{header_ends_none}
use Rattle.giop_message.proofs.SectionRuns.{if_err, first_alone, standing, took, by_reads, ReadWith, broken_front, took_front, failed_front, rest_front, text_more, text_done, text_named, text_wrong, keeps_noted_header, went_on, went_done, went_wrong, none_ends, answered_here, told_here, padding_none, rest_none}
use Rattle.giop_message.proofs.message.Message.take_some.Goals as goal

-- a section that has just ended is still the part of the message
ended_in : (C : Table) (d : Decoder) (section : Section) (r : Read) {part : Part} →
    part ≡ parts.Typed section → KeepsNoted C (root_of section) d r →
    HasEndedSection C d part section r
ended_in C d section r is keeps_noted =
    subst (λ p. HasEndedSection C d p section r) (sym is) (refl, keeps_noted)

pub returns-in_err-taken-in-Typed-clause-writes : goal.returns-in_err-taken-in-Typed-clause-writes
returns-in_err-taken-in-Typed-clause-writes g c answers phase number header s f =
    let t = standing f c.in-Typed.is c.requires.fits in
    broken_front t c.from_residual.result c.args.octets.now c.args.place c.from_residual.ensures.0
    (by_reads t c.in_err-taken-in-Typed.ensures.writes)

pub returns-in-More-clause-writes : goal.returns-in-More-clause-writes
returns-in-More-clause-writes g c answers phase number header s f =
    let t = standing f c.in-Typed.is c.requires.fits in
    let ran = c.in_ok-taken-in-Typed.ensures in
    let k = took t c.args.octets.now c.in_ok-taken-in-Typed.taken ran.within
    (ran.some c.requires.some) (by_reads t ran.takes) c.in-More.is in
    took_front _ c.args.place _ _ refl k (rw (text_more k c.args.place) (by_reads t ran.writes))

pub returns-in-More-clause-took : goal.returns-in-More-clause-took
returns-in-More-clause-took g c answers phase number header s f agrees =
    let t = standing f c.in-Typed.is c.requires.fits in
    let ran = c.in_ok-taken-in-Typed.ensures in
    let k = took t c.args.octets.now c.in_ok-taken-in-Typed.taken ran.within
    (ran.some c.requires.some) (by_reads t ran.takes) c.in-More.is in
    went_on k (λ fault. fault) _
    (record { number = refl; header = refl; at = refl; lacks = refl }) refl
    c.in-Typed.is refl

pub returns-in_err-write_call_line-in-Named-clause-writes :
    goal.returns-in_err-write_call_line-in-Named-clause-writes
returns-in_err-write_call_line-in-Named-clause-writes g c answers phase number header s f =
    let t = standing f c.in-Typed.is c.requires.fits in
    let ran = c.in_ok-taken-in-Typed.ensures in
    let k = took t c.args.octets.now c.in_ok-taken-in-Typed.taken ran.within
    (ran.some c.requires.some) (by_reads t ran.takes) c.in-Named.is in
    let called = c.in_err-write_call_line-in-Named.ensures (answers number) phase
    (ReadWith t (take c.in_ok-taken-in-Typed.taken c.args.octets.now)) (keeps_noted_header k) in
    failed_front c.from_residual-in_err-write_call_line-in-Named.result c.args.place
    c.from_residual-in_err-write_call_line-in-Named.ensures.0 k (text_named k c.args.place)
    (by_reads t ran.writes) called

pub returns-in_ok-write_call_line-in-Named-clause-writes :
    goal.returns-in_ok-write_call_line-in-Named-clause-writes
returns-in_ok-write_call_line-in-Named-clause-writes g c answers phase number header s f =
    let t = standing f c.in-Typed.is c.requires.fits in
    let ran = c.in_ok-taken-in-Typed.ensures in
    let k = took t c.args.octets.now c.in_ok-taken-in-Typed.taken ran.within
    (ran.some c.requires.some) (by_reads t ran.takes) c.in-Named.is in
    let called = c.in_ok-write_call_line-in-Named.ensures (answers number) phase
    (ReadWith t (take c.in_ok-taken-in-Typed.taken c.args.octets.now)) (keeps_noted_header k) in
    took_front _ c.args.place _ _ refl k (rw (text_named k c.args.place)
    (wrote-append _ _ _ _ _ (by_reads t ran.writes) called))

pub returns-in_ok-write_call_line-in-Named-clause-took :
    goal.returns-in_ok-write_call_line-in-Named-clause-took
returns-in_ok-write_call_line-in-Named-clause-took g c answers phase number header s f agrees =
    let t = standing f c.in-Typed.is c.requires.fits in
    let ran = c.in_ok-taken-in-Typed.ensures in
    let k = took t c.args.octets.now c.in_ok-taken-in-Typed.taken ran.within
    (ran.some c.requires.some) (by_reads t ran.takes) c.in-Named.is in
    went_on k (λ fault. fault) _
    (record { number = refl; header = refl; at = refl; lacks = refl }) refl
    c.in-Typed.is refl

pub returns-in-Done-clause-writes : goal.returns-in-Done-clause-writes
returns-in-Done-clause-writes g c answers phase number header s f =
    let t = standing f c.in-Typed.is c.requires.fits in
    let ran = c.in_ok-taken-in-Typed.ensures in
    let k = took t c.args.octets.now c.in_ok-taken-in-Typed.taken ran.within
    (ran.some c.requires.some) (by_reads t ran.takes) c.in-Done.is in
    took_front _ c.args.place _ _ refl k (rw (text_done k c.args.place) (by_reads t ran.writes))

pub returns-in-Done-clause-took : goal.returns-in-Done-clause-took
returns-in-Done-clause-took g c answers phase number header s f agrees =
    let t = standing f c.in-Typed.is c.requires.fits in
    let ran = c.in_ok-taken-in-Typed.ensures in
    let k = took t c.args.octets.now c.in_ok-taken-in-Typed.taken ran.within
    (ran.some c.requires.some) (by_reads t ran.takes) c.in-Done.is in
    let e = c.end_section.ensures in
    let xs = take c.in_ok-taken-in-Typed.taken c.args.octets.now in
    went_done k _ _ (record { number = refl; header = refl; at = refl; lacks = refl }) refl
    (e.arrives answers phase number header (s ++ xs) c.in-Typed.field-0 (ReadWith t xs)
    (ended_in c.args.catalogue.now c.take_run.new.self c.in-Typed.field-0 (ReadWith t xs)
    c.in-Typed.is
    k.takes.keeps_noted)
    (answered_here g.Q.Correspondent.answer g.Q.Correspondent.notified
    (g.Q.Correspondent.state c.args.correspondent.now) answers k agrees))
    (record { number = e.number; header = e.header; at = e.at; lacks = e.lacks })
    (e.id c.in-Typed.field-0 (ReadWith t xs)
    (ended_in c.args.catalogue.now c.take_run.new.self c.in-Typed.field-0 (ReadWith t xs)
    c.in-Typed.is
    k.takes.keeps_noted)) e.past

pub returns-in_err-fault_line-in-Fault-clause-writes :
    goal.returns-in_err-fault_line-in-Fault-clause-writes
returns-in_err-fault_line-in-Fault-clause-writes g c answers phase number header s f =
    let t = standing f c.in-Typed.is c.requires.fits in
    let ran = c.in_ok-taken-in-Typed.ensures in
    let k = took t c.args.octets.now c.in_ok-taken-in-Typed.taken ran.within
    (ran.some c.requires.some) (by_reads t ran.takes) c.in-Fault.is in
    let emitted = rw c.fault_word.ensures at c.in_err-fault_line-in-Fault.ensures in
    failed_front c.from_residual-in_err-fault_line-in-Fault.result c.args.place
    c.from_residual-in_err-fault_line-in-Fault.ensures.0 k
    (text_wrong c.in-Fault.kind k c.args.place) (by_reads t ran.writes) emitted

pub returns-in_ok-fault_line-in-Fault-clause-writes :
    goal.returns-in_ok-fault_line-in-Fault-clause-writes
returns-in_ok-fault_line-in-Fault-clause-writes g c answers phase number header s f =
    let t = standing f c.in-Typed.is c.requires.fits in
    let ran = c.in_ok-taken-in-Typed.ensures in
    let k = took t c.args.octets.now c.in_ok-taken-in-Typed.taken ran.within
    (ran.some c.requires.some) (by_reads t ran.takes) c.in-Fault.is in
    let emitted = rw c.fault_word.ensures at c.in_ok-fault_line-in-Fault.ensures in
    took_front _ c.args.place _ _ refl k (rw (text_wrong c.in-Fault.kind k c.args.place)
    (wrote-append _ _ _ _ _ (by_reads t ran.writes) emitted))

pub returns-in_ok-fault_line-in-Fault-clause-took :
    goal.returns-in_ok-fault_line-in-Fault-clause-took
returns-in_ok-fault_line-in-Fault-clause-took g c answers phase number header s f agrees =
    let t = standing f c.in-Typed.is c.requires.fits in
    let ran = c.in_ok-taken-in-Typed.ensures in
    let k = took t c.args.octets.now c.in_ok-taken-in-Typed.taken ran.within
    (ran.some c.requires.some) (by_reads t ran.takes) c.in-Fault.is in
    went_wrong c.in-Fault.kind k

pub returns-in-Padding-clause-writes : goal.returns-in-Padding-clause-writes
returns-in-Padding-clause-writes g c answers phase number header s f =
    let octet = get_or c.args.octets.now 0 0 in
    let here = same_fields f refl refl refl refl refl (sym c.in-Padding.is) refl in
    let none = c.take_padding.ensures.told answers phase number header s octet here in
    record {
      n = 1;
      counted = refl;
      within = c.requires.some;
      some = λ _. omega arith;
      fronts = λ k few. let first : k ≡ 0 = omega (arith, few) in
          rw first (header_ends_none phase number header s);
      all = rw (
        first_alone c.args.octets.now c.requires.some,
        no_text _ number c.args.place header s (octet ∷ []) none,
      ) (wrote-nil _);
    }

pub returns-in-Padding-clause-took : goal.returns-in-Padding-clause-took
returns-in-Padding-clause-took g c answers phase number header s f agrees =
    let here = same_fields f refl refl refl refl refl (sym c.in-Padding.is) refl in
    rw (first_alone c.args.octets.now c.requires.some)
    (c.take_padding.ensures.follows answers phase number header s (get_or c.args.octets.now 0 0)
    here)

pub returns-in_err-take-in-Rest-clause-writes : goal.returns-in_err-take-in-Rest-clause-writes
returns-in_err-take-in-Rest-clause-writes g c answers phase number header s f =
    let octets = c.args.octets.now in
    let At = 12 + length s in
    let text = rest_text f c.in-Rest.is octets c.requires.some c.room.ensures c.min-taken.ensures
    c.args.place in
    let failed = c.from_residual-in_err-take-in-Rest.ensures.0 in
    rest_front f c.in-Rest.is octets c.args.place c.from_residual-in_err-take-in-Rest.result
    c.min-taken.result _ _ (if_err _ _ failed) (omega (arith, c.min-taken.ensures))
    (λ some. omega (arith, some, c.min-taken.ensures, c.room.ensures, c.in-Rest.rest.room))
    (writes_failed _ _ _ _ failed
    (rw text (c.in_err-take-in-Rest.ensures.writes c.args.place At
    (At + length (take c.min-taken.result octets)))))

pub returns-in_ok-take-in-Rest-clause-writes : goal.returns-in_ok-take-in-Rest-clause-writes
returns-in_ok-take-in-Rest-clause-writes g c answers phase number header s f =
    let octets = c.args.octets.now in
    let At = 12 + length s in
    let text = rest_text f c.in-Rest.is octets c.requires.some c.room.ensures c.min-taken.ensures
    c.args.place in
    rest_front f c.in-Rest.is octets c.args.place _ c.min-taken.result _ _ refl
    (omega (arith, c.min-taken.ensures))
    (λ some. omega (arith, some, c.min-taken.ensures, c.room.ensures, c.in-Rest.rest.room))
    (rw text (c.in_ok-take-in-Rest.ensures.writes c.args.place At
    (At + length (take c.min-taken.result octets))))

pub returns-in_ok-take-in-Rest-clause-took : goal.returns-in_ok-take-in-Rest-clause-took
returns-in_ok-take-in-Rest-clause-took g c answers phase number header s f agrees =
    let octets = c.args.octets.now in
    let end = (12 + length s) + length (take c.min-taken.result octets) in
    rest_follows f c.in-Rest.is octets c.requires.some c.room.ensures c.min-taken.ensures
    (record { number = refl; header = refl; at = refl; lacks = refl }) refl refl
    (c.in_ok-take-in-Rest.ensures.holds end)

pub returns-in-More-clause-told : goal.returns-in-More-clause-told
returns-in-More-clause-told g c answers phase number header s f =
    let t = standing f c.in-Typed.is c.requires.fits in
    let ran = c.in_ok-taken-in-Typed.ensures in
    let k = took t c.args.octets.now c.in_ok-taken-in-Typed.taken ran.within
    (ran.some c.requires.some) (by_reads t ran.takes) c.in-More.is in
    sym (ap (after_ends g.Q.Correspondent.notified c.args.catalogue.now
    (g.Q.Correspondent.state c.args.correspondent.now)) (none_ends k tt))

pub returns-in_ok-write_call_line-in-Named-clause-told :
    goal.returns-in_ok-write_call_line-in-Named-clause-told
returns-in_ok-write_call_line-in-Named-clause-told g c answers phase number header s f =
    let t = standing f c.in-Typed.is c.requires.fits in
    let ran = c.in_ok-taken-in-Typed.ensures in
    let k = took t c.args.octets.now c.in_ok-taken-in-Typed.taken ran.within
    (ran.some c.requires.some) (by_reads t ran.takes) c.in-Named.is in
    sym (ap (after_ends g.Q.Correspondent.notified c.args.catalogue.now
    (g.Q.Correspondent.state c.args.correspondent.now)) (none_ends k tt))

pub returns-in-Done-clause-told : goal.returns-in-Done-clause-told
returns-in-Done-clause-told g c answers phase number header s f =
    let t = standing f c.in-Typed.is c.requires.fits in
    let ran = c.in_ok-taken-in-Typed.ensures in
    let k = took t c.args.octets.now c.in_ok-taken-in-Typed.taken ran.within
    (ran.some c.requires.some) (by_reads t ran.takes) c.in-Done.is in
    let xs = take c.in_ok-taken-in-Typed.taken c.args.octets.now in
    told_here g.Q.Correspondent.answer g.Q.Correspondent.notified
    (g.Q.Correspondent.state c.args.correspondent.now) _ k
    (c.end_section.ensures.told c.in-Typed.field-0 (ReadWith t xs)
    (ended_in c.args.catalogue.now c.take_run.new.self c.in-Typed.field-0 (ReadWith t xs)
    c.in-Typed.is
    k.takes.keeps_noted))

pub returns-in_ok-fault_line-in-Fault-clause-told :
    goal.returns-in_ok-fault_line-in-Fault-clause-told
returns-in_ok-fault_line-in-Fault-clause-told g c answers phase number header s f =
    let t = standing f c.in-Typed.is c.requires.fits in
    let ran = c.in_ok-taken-in-Typed.ensures in
    let k = took t c.args.octets.now c.in_ok-taken-in-Typed.taken ran.within
    (ran.some c.requires.some) (by_reads t ran.takes) c.in-Fault.is in
    sym (ap (after_ends g.Q.Correspondent.notified c.args.catalogue.now
    (g.Q.Correspondent.state c.args.correspondent.now)) (none_ends k tt))

pub returns-in-Padding-clause-told : goal.returns-in-Padding-clause-told
returns-in-Padding-clause-told g c answers phase number header s f =
    sym (ap (after_ends g.Q.Correspondent.notified c.args.catalogue.now
    (g.Q.Correspondent.state c.args.correspondent.now))
    (ap (header_ends phase number header s) (first_alone c.args.octets.now c.requires.some)
    ∙ padding_none f c.in-Padding.is (get_or c.args.octets.now 0 0)))

pub returns-in_ok-take-in-Rest-clause-told : goal.returns-in_ok-take-in-Rest-clause-told
returns-in_ok-take-in-Rest-clause-told g c answers phase number header s f =
    sym (ap (after_ends g.Q.Correspondent.notified c.args.catalogue.now
    (g.Q.Correspondent.state c.args.correspondent.now))
    (rest_none f c.in-Rest.is (take c.min-taken.result c.args.octets.now)))
