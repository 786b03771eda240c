-- What writing lines to an out with tags does to the out below.
use Rattle.std.proofs.Common.{◌≡◌, ℕ, true, false, List, [], ◌++◌, length, take, Option, Some, None, option_and_then, refl, ap, ◌∙◌, arith, append-nil, append_assoc}
use Rattle.std.proofs.lemmas.Bool.{or_right, eqb-true, eq-eqb}
use Rattle.std.specs.Io.KnownBytes.{Appends}
use Rattle.giop_print.specs.Output.{Wrote, WroteFront}
use Rattle.giop_conversation.specs.Tags.{tagged, with_tags}
use Rattle.giop_conversation.specs.TaggedText.{next_begins_line, is_tag_due, tagged_until_due, StandsTagged}
use Rattle.giop_conversation.specs.TaggedState.{Tagging, tagging_log, start_identity, is_due_tag_whole, written_through, IsReady, WroteTaggedFront}
use Rattle.giop_conversation.proofs.TagLemmas.{ends_append}
use Rattle.giop_conversation.proofs.TaggedLemmas.{stopped_ended, stopped_more, shown_is, shows, IsWrittenThrough, identity_is}

-- the text grew by `more`, under the same tag
record HasGrown (t t' : Tagging) (before text more : List ℕ) : Type 0 where
  below : List ℕ
  known : t'.whole ≡ Some below
  tag : t'.tag ≡ t.tag
  stands : StandsTagged below before t.tag t'.since (text ++ more) t'.due
  clean : is_due_tag_whole t.tag t'.due t'.failures (text ++ more) ≡ true

grown_by : (t t' : Tagging) (before text more : List ℕ) (below s : List ℕ) → t'.whole ≡ Some below →
    s ≡ (start_identity before t.tag ++ text) ++ more → IsWrittenThrough below t'.tag t'.since
    t'.due
    t'.failures s →
    HasGrown t t' before text more
grown_by t t' before text more below s known is found = search (arith, append_assoc, identity_is)

grown : (t t' : Tagging) (before text more : List ℕ) (whole : Option (List ℕ)) → t'.whole ≡ whole →
    Appends (Some (start_identity before t.tag ++ text))
    (option_and_then (written_through t'.tag t'.due t'.since t'.failures) whole) more →
    HasGrown t t' before text more
grown t t' before text more None known appends = absurd appends
grown t t' before text more (Some below) known appends =
    by (written_through t'.tag t'.due t'.since t'.failures below) refl appends
  where
    by : (o : Option (List ℕ)) → written_through t'.tag t'.due t'.since t'.failures below ≡ o →
        Appends (Some (start_identity before t.tag ++ text)) o more → HasGrown t t' before text more
    by None is appends = absurd appends
    by (Some s) is appends = search (arith, grown_by, shows)

ready_is_clean : (t : Tagging) (w : List ℕ) (r : IsReady t w) →
    is_due_tag_whole t.tag t.due t.failures r.text ≡ true
ready_is_clean t w r = search (arith, or_right, eq-eqb)

ready_grown : (t t' : Tagging) (w more : List ℕ) (r : IsReady t w) →
    Appends (tagging_log t).written (tagging_log t').written more →
    HasGrown t t' r.before r.text more
ready_grown t t' w more r appends =
    let is = shown_is w r.before t.tag t.since r.text t.due t.failures r.stands
    (ready_is_clean t w r) in
    grown t t' r.before r.text more t'.whole refl (rw (r.known, is) at appends)

-- what was written to the out below is the text by which it grew, with tags
ready_below : (t t' : Tagging) (w more : List ℕ) (r : IsReady t w)
    (g : HasGrown t t' r.before r.text more) →
    g.below ≡ w ++ tagged_until_due t.tag more t'.due
ready_below t t' w more r g = search (arith, stopped_ended, stopped_more, append_assoc)

clean_due : (tag text : List ℕ) (due failures : ℕ) → failures ≡ 0 → is_tag_due text ≡ true →
    is_due_tag_whole tag due failures text ≡ true → due ≡ length tag
clean_due tag text due failures none ended clean = search (arith, eqb-true)

pub ready_wrote : (t t' : Tagging) (w lines : List ℕ) → IsReady t w →
    Wrote (tagging_log t) (tagging_log t') lines →
    is_tag_due lines ≡ true → IsReady t' (w ++ with_tags t.tag lines) × (t'.tag ≡ t.tag)
ready_wrote t t' w lines r wrote ends =
    let g = ready_grown t t' w lines r wrote.written in
    let sound : t'.failures ≡ 0 = wrote.failures ∙ r.sound in
    let ended : is_tag_due (r.text ++ lines) ≡ true = ends_append true r.text lines
    ∙ (ap (λ b. next_begins_line b lines) r.ended ∙ ends) in
    let due : t'.due ≡ length t.tag =
    clean_due t.tag (r.text ++ lines) t'.due t'.failures sound ended g.clean in
    let below : g.below ≡ w ++ with_tags t.tag lines =
    ready_below t t' w lines r g
    ∙ ap (λ b. w ++ b) (stopped_ended t.tag lines t'.due (λ _. due)) in (
      record {
        known = g.known ∙ ap (λ b. Some b) below;
        before = r.before;
        text = r.text ++ lines;
        stands = rw (g.tag, ← below) g.stands;
        ended = ended;
        due = rw g.tag due;
        sound = sound;
      },
      g.tag,
    )

pub ready_front : (t t' : Tagging) (w lines : List ℕ) → IsReady t w →
    WroteFront (tagging_log t) (tagging_log t') lines →
    WroteTaggedFront t' w t.tag lines
ready_front t t' w lines r wrote =
    let g = ready_grown t t' w (take wrote.size lines) r wrote.written in
    record {
      size = wrote.size;
      due = t'.due;
      whole = g.known ∙ ap (λ b. Some b) (ready_below t t' w (take wrote.size lines) r g);
    }

-- ---- a tag is set

fresh_stands : (w tag : List ℕ) → StandsTagged w w tag 0 [] (length tag)
unfolding tagged next_begins_line
fresh_stands w tag = search (arith, stopped_ended, append-nil)

pub ready_with : (t : Tagging) (w tag : List ℕ) → IsReady t w →
    IsReady (record t { tag = tag; due = length tag; since = 0 }) w
unfolding next_begins_line
ready_with t w tag r =
    record {
      known = r.known;
      before = w;
      text = [];
      stands = fresh_stands w tag;
      ended = refl;
      due = refl;
      sound = r.sound;
    }

pub ready_new : (w : List ℕ) (below : ℕ) → IsReady (record {
  whole = Some w;
  below = below;
  tag = [];
  due = 0;
  since = 0;
  refused = false;
  puts = 0;
  failures = 0;
}) w
unfolding next_begins_line
ready_new w below =
    record {
      known = refl;
      before = w;
      text = [];
      stands = fresh_stands w [];
      ended = refl;
      due = refl;
      sound = refl;
    }
