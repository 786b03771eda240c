use Rattle.std.proofs.Common.{[]}
use Rattle.giop_decode.proofs.notes.Notes.extend_unbegun_string.Goals as goal

pub returns-in-Key-clause-notes : goal.returns-in-Key-clause-notes
returns-in-Key-clause-notes c C asked h held =
    c.extend_begun_string.ensures.notes C asked (record h { key_so_far = [] })
    (c.begin_string.ensures.notes C asked h held)

pub returns-in-LongKey-clause-notes : goal.returns-in-LongKey-clause-notes
returns-in-LongKey-clause-notes c C asked h held =
    c.extend_begun_string-in-LongKey.ensures.notes C asked (record h { key_so_far = [] })
    (c.begin_string-in-LongKey.ensures.notes C asked h held)
