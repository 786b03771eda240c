use Rattle.std.proofs.Common.{ℕ, ◌+◌, ◌*◌, ap, sym, ◌∙◌, take, drop, length, arith}
use Rattle.std.proofs.lemmas.List.{drop-drop, length-drop}
use Rattle.giop_checkpoint.specs.declared.record.Record.{Record}
use Rattle.giop_checkpoint.specs.declared.sizes.TheConstants.{FRAME_SIZE}
use Rattle.giop_checkpoint.proofs.RecordFields.{front_of, first_is, by_frames, past_frames}
use Rattle.giop_checkpoint.proofs.States.{value_of}
use Rattle.giop_checkpoint.proofs.record.first_record.Goals as goal

pub returns-in_default-clause-again : goal.returns-in_default-clause-again
returns-in_default-clause-again c e rest h is =
    c.in_default.not-Some _ (c.record_at.ensures.again e.record_is h.own
    (c.split_at.ensures.front ∙ (front_of e _ rest h is).own))

pub split_at-requires-3 : goal.split_at-requires-3
split_at-requires-3 c =
    let s = c.args.octets.now in
    let first = first_is c.in-Some.record s c.in-Some.ensures.range
    (sym c.split_at.ensures.front ∙ c.in-Some.ensures.own) in
    let behind = c.split_at-2.ensures.back
    ∙ (ap (drop 224) c.split_at.ensures.back ∙ drop-drop 224 32 s) in
    omega (arith, first, ap length behind, length-drop 256 s, c.requires.whole)

pub returns-clause-rest : goal.returns-clause-rest
returns-clause-rest c =
    let s = c.args.octets.now in
    let first = first_is c.in-Some.record s c.in-Some.ensures.range
    (sym c.split_at.ensures.front ∙ c.in-Some.ensures.own) in
    let behind = c.split_at-2.ensures.back
    ∙ (ap (drop 224) c.split_at.ensures.back ∙ drop-drop 224 32 s) in
    c.split_at-3.ensures.back
    ∙ (ap (drop (FRAME_SIZE * c.in-Some.record.frames)) behind
    ∙ (drop-drop (FRAME_SIZE * c.in-Some.record.frames) 256 s
    ∙ ap (λ (n : ℕ). drop (256 + FRAME_SIZE * n) s) (sym first)))

pub returns-clause-again : goal.returns-clause-again
returns-clause-again c e rest h is =
    let s = c.args.octets.now in
    let p = front_of e s rest h is in
    let same = value_of _ _ _ (c.record_at.ensures.again e.record_is h.own
    (c.split_at.ensures.front ∙ p.own)) c.in-Some.is in
    let frames = ap (λ (r : Record). r.frames) same in
    let behind = c.split_at-2.ensures.back ∙ ap (drop 224) c.split_at.ensures.back in (
      same,
      c.message_array.ensures ∙ (c.split_at-2.ensures.front
          ∙ (ap (take 224) c.split_at.ensures.back ∙ p.message)),
      c.split_at-3.ensures.front ∙ by_frames _ _ _ _ _ frames behind p.frames,
      c.split_at-3.ensures.back ∙ past_frames _ _ _ _ _ frames behind p.rest_is,
    )
