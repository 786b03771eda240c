-- What is known of an `Out` that puts a tag in front of each line (state). Contracts see what was
-- written to the out below it, how many of these octets were written since the tag was set, and how
-- many octets of the tag must be written before the next octet.
--
-- What was written through it is read from what was written below: first comes what identifies the
-- octets before the tag was set and the tag, then the text without tags. So what a writing call did
-- to it tells what the call did to the out below.
use Rattle.std.specs.Prelude.{◌≡◌, ℕ, ◌-◌, ◌<◌, ◌≤◌, Bool, true, not, ◌&&◌, ◌||◌, ◌==◌, nat_le, List, ◌∷◌, ◌++◌, length, take, drop, Option, Some, None, option_and_then, if◌then◌else◌}
use Rattle.std.specs.Str.{bytes_eq}
use Rattle.giop_print.specs.Output.{OutLog}
use Rattle.giop_conversation.specs.Tags.{without_tags}
use Rattle.giop_conversation.specs.TaggedText.{is_tag_due, tagged_until_due, StandsTagged}

pub record Tagging : Type 0 where
  pub whole : Option (List ℕ)  -- what was written to the out below, if that is known
  pub below : ℕ  -- how often the out below has failed
  pub tag : List ℕ
  pub due : ℕ  -- how many octets of the tag must be written before the next octet
  pub since : ℕ  -- how many octets were written since the tag was set
  pub refused : Bool  -- whether a call has failed without a put
  pub puts : ℕ
  pub failures : ℕ

-- The whole tag is due, it has at least one octet, and it isn't longer than a block of 16.
pub record IsShortTagDue (tag_octets_due : ℕ) (tag : List ℕ) : Type 0 where
  pub whole : tag_octets_due ≡ length tag
  pub some : 0 < length tag
  pub short : length tag ≤ 16

-- a list of numbers that identifies the octets before the tag was set, and the tag
abbrev pub start_identity : (octets_before_tag tag : List ℕ) → List ℕ
start_identity before tag = length before ∷ length tag ∷ (before ++ tag)

-- the octets that were written since the tag was set
abbrev pub octets_since_tag : (octet_count_since_tag : ℕ) (written_below : List ℕ) → List ℕ
octets_since_tag since written = drop (length written - since) written

abbrev pub text_since_tag : (tag : List ℕ) (octet_count_since_tag : ℕ) (written_below : List ℕ) →
    List ℕ
text_since_tag tag since written = without_tags (length tag) (octets_since_tag since written)

-- if no put has failed and a tag is due, the whole tag is due
abbrev pub is_due_tag_whole : (tag : List ℕ) (tag_octets_due failed_puts : ℕ)
    (text_since_tag_set : List ℕ) → Bool
is_due_tag_whole tag due failures text = (not (failures == 0) || not (is_tag_due text))
    || due == length tag

-- the octets since the tag was set are a text with tags; if a tag is due at their end, all of it
-- but `due` octets stands there
unfoldable pub is_tagged : (tag : List ℕ) (tag_octets_due octet_count_since_tag failed_puts : ℕ)
    (written_below : List ℕ) → Bool
is_tagged tag due since failures written =
    (nat_le since (length written) && nat_le due (length tag))
    && (bytes_eq (octets_since_tag since written) (tagged_until_due tag (text_since_tag tag since
    written) due)
    && ((is_tag_due (text_since_tag tag since written) || due == 0)
    && is_due_tag_whole tag due failures (text_since_tag tag since written)))

unfoldable pub written_through : (tag : List ℕ)
    (tag_octets_due octet_count_since_tag failed_puts : ℕ) (written_below : List ℕ) →
    Option (List ℕ)
written_through tag due since failures written =
    if is_tagged tag due since failures written
    then Some (start_identity (take (length written - since) written) tag ++ text_since_tag tag
    since written)
    else None

abbrev pub tagging_log : Tagging → OutLog
tagging_log t = record {
  written = option_and_then (written_through t.tag t.due t.since t.failures) t.whole;
  puts = t.puts;
  failures = t.failures;
}

-- No put has failed, exactly this was written to the out below, and the next octet begins a line.
pub record IsReady (tagging : Tagging) (written_below : List ℕ) : Type 0 where
  pub known : tagging.whole ≡ Some written_below
  pub before : List ℕ
  pub text : List ℕ
  pub stands : StandsTagged written_below before tagging.tag tagging.since text tagging.due
  pub ended : is_tag_due text ≡ true
  pub due : tagging.due ≡ length tagging.tag
  pub sound : tagging.failures ≡ 0

-- A put failed: the text below is what was written before, then a front of these lines with the
-- tag, and maybe the beginning of a tag.
pub record WroteTaggedFront (out_after : Tagging) (text_below_before tag lines : List ℕ)
    : Type 0 where
  pub size : ℕ
  pub due : ℕ
  pub whole : out_after.whole
      ≡ Some (text_below_before ++ tagged_until_due tag (take size lines) due)
