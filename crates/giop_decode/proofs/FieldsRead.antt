-- The path of the innermost part is spelled from its end. It is the path of the decoder's frames.
use Rattle.std.proofs.Common.{◌≡◌, ℕ, suc, subst, pred, true, false, Bool, Option, Some, None, ◌+◌, ◌-◌, ◌<◌, ◌≤◌, List, [], ◌∷◌, ◌++◌, length, get_or, drop, refl, ap, ◌∙◌, sym, append_assoc, append-nil, length-append, codes, decimal, arith}
use Rattle.std.proofs.lemmas.Bool.{false≢true}
use Rattle.std.proofs.lemmas.List.{drop_more}
use Rattle.giop_decode.specs.Segments.{IsUnionOrNone, discriminator_segments, discriminator_text, frame_text, frames_text}
use Rattle.giop_decode.specs.ReadResult.{PathSegment}
use Rattle.giop_decode.specs.Spelling.{segment_text, segments_text, path_text}
use Rattle.giop_decode.specs.ReadingSteps.{segment_in, path_in}
use Rattle.giop_decode.specs.Transitions.{open_part, open_parts, parts_in_room, switch_segment, tree_in}
use Rattle.giop_decode.specs.declared.frame.Frame.{Frame}
use Rattle.giop_decode.proofs.Segments.{segment_anywhere, segments_text-append, switch_in_room}
use Rattle.giop_print.specs.declared.line.Line.{Line}
use Rattle.giop_print.specs.declared.path.Root.{Root}
use Rattle.giop_print.specs.Line.{line_text, line_room, headed, Spells}
use Rattle.giop_print.specs.Paths.{root_word}
use Rattle.giop_sig.specs.HeaderTypes.{IsTable}
use Rattle.giop_sig.specs.Table.{Table}
use Rattle.giop_sig.specs.Trees.{tree, tree_at}
use Rattle.giop_sig.specs.declared.types.TypeId.{TypeId}

path_anywhere : (C : Table) (room here : ℕ) (path : List PathSegment) (outer : List Frame) →
    path_in path (parts_in_room C room 0 outer) ≡ path_in path (parts_in_room C room here outer)
path_anywhere C room here path [] = refl
path_anywhere C room here path (f ∷ outer) =
    path_anywhere C (pred room) here (path ++ segment_in (open_part C room 0 f) ∷ []) outer
    ∙ ap (λ seg. path_in (path ++ seg ∷ []) (parts_in_room C (pred room) here outer))
    (segment_anywhere C room room 0 here f)

-- the path of the innermost part, and that of its discriminator, are the same at each offset
pub stands_at : (C : Table) (here : ℕ) (root : Root) (outer : List Frame) →
    path_text root (path_in [] (open_parts C 0 outer) ++ [])
    ≡ path_text root (path_in [] (open_parts C here outer))
stands_at C here root outer = search (arith, append-nil, path_anywhere)

pub switch_at : (C : Table) (here : ℕ) (root : Root) (outer : List Frame) (seg : PathSegment) →
    path_text root (path_in [] (open_parts C 0 outer) ++ seg ∷ [])
    ≡ path_text root (path_in [] (open_parts C here outer) ++ seg ∷ [])
switch_at C here root outer seg = search (arith, path_anywhere)

-- the text of a path is the text of its frames
frames_spelled : (C : Table) (room : ℕ) (path : List PathSegment) (outer : List Frame) →
    segments_text (path_in path (parts_in_room C room 0 outer))
    ≡ segments_text path ++ frames_text C outer
frames_spelled C room path [] = search (arith, append-nil)
frames_spelled C room path (f ∷ outer) =
    let seg = segment_in (open_part C room 0 f) in
    frames_spelled C (pred room) (path ++ seg ∷ []) outer
    ∙ (ap (λ text. text ++ frames_text C outer) (segments_text-append path seg)
    ∙ append_assoc (segments_text path) (segment_text seg) (frames_text C outer)
    ∙ ap (λ s. segments_text path ++ (segment_text s ++ frames_text C outer))
    (segment_anywhere C room 24 0 0 f))

-- a discriminator has the same segment inside these frames as at the root
abbrev SameSwitch : (C : Table) (outer : List Frame) (of : Option TypeId) → Type 0
SameSwitch C outer None = Unit {0}
SameSwitch C outer (Some of) = switch_segment (tree_in C outer of.0) ≡ switch_segment (tree C of.0)

pub same_switch : (C : Table) (outer : List Frame) (switch : Option TypeId) → IsTable C →
    length outer < 24 → IsUnionOrNone C switch → SameSwitch C outer switch
same_switch C outer None laws few is = tt
same_switch C outer (Some of) laws few is =
    let one : suc (23 - length outer) ≡ 24 - length outer = omega (arith, few) in
    subst (λ room. switch_segment (tree_at C room of.0) ≡ switch_segment (tree C of.0)) one
    (switch_in_room C (23 - length outer) 23 of.0 laws is.0 is.1)

ends_spelled : (C : Table) (path : List PathSegment) (outer : List Frame)
    (switch : Option TypeId) → SameSwitch C outer switch →
    segments_text (path ++ discriminator_segments C outer switch) ≡ segments_text path
    ++ discriminator_text C switch
ends_spelled C path outer None same = search (arith, append-nil)
ends_spelled C path outer (Some of) same =
    segments_text-append path (switch_segment (tree_in C outer of.0))
    ∙ ap (λ s. segments_text path ++ segment_text s) same

pub here_spelled : (C : Table) (root : Root) (outer : List Frame) (switch : Option TypeId) →
    SameSwitch C outer switch → root_word root ++ (frames_text C outer
    ++ discriminator_text C switch)
    ≡ path_text root (path_in [] (open_parts C 0 outer) ++ discriminator_segments C outer switch)
unfolding path_text
here_spelled C root outer switch same = search (arith, ends_spelled, frames_spelled)

-- the text of the frames is the path of the innermost part, at any offset
pub path_spelled : (C : Table) (here : ℕ) (root : Root) (outer : List Frame) →
    root_word root ++ frames_text C outer ≡ path_text root (path_in [] (open_parts C here outer))
path_spelled C here root outer =
    ap (λ text. root_word root ++ text) (sym (append-nil (frames_text C outer)))
    ∙ (here_spelled C root outer None tt ∙ stands_at C here root outer)

-- the text that a line begins with, before more text
pub headed_is : (message : ℕ) (place rest : List ℕ) →
    headed message place [] ++ rest ≡ headed message place rest
headed_is message place rest = search (arith, codes, append_assoc, decimal, append-nil)

-- a line without room for the rest of a path has only spelled the path's end
pub spells_end : (a b : Line) (end text : List ℕ) → line_text b ≡ end ++ line_text a →
    line_room b + length end ≡ line_room a → Spells false a b text
spells_end a b end text e r = search (arith, false≢true)

pub spells_more : (w : Bool) (a b c : Line) (end more text : List ℕ) →
    line_text b ≡ end ++ line_text a → line_room b + length end ≡ line_room a → Spells w b c more →
    Spells false a c text
spells_more w a b c end more text e r s =
    spells_end a c (s.front ++ end) text (s.spelled ∙ (ap (λ t. s.front ++ t) e
    ∙ sym (append_assoc s.front end (line_text a))))
    (omega (arith, length-append s.front end, s.room, r))

-- a line with room for a whole path has spelled all of it
pub spells_here : (message : ℕ) (C : Table) (root : Root) (outer : List Frame)
    (switch : Option TypeId) (w : Bool)
    (a b c d : Line) → SameSwitch C outer switch → line_text b ≡ discriminator_text C switch
    ++ line_text a →
    line_room b + length (discriminator_text C switch) ≡ line_room a →
    Spells w b c (frames_text C outer) →
    w ≡ true → line_text d ≡ headed message (root_word root) [] ++ line_text c →
    line_room d + length (headed message (root_word root) []) ≡ line_room c →
    Spells true a d (headed message
    (path_text root (path_in [] (open_parts C 0 outer) ++ discriminator_segments C outer switch))
    [])
spells_here message C root outer switch w a b c d same be br s whole de dr =
    let head = headed message (root_word root) [] in
    let frames = frames_text C outer in
    let end = discriminator_text C switch in
    let front : s.front ≡ frames = s.all whole in
    let c_text : line_text c ≡ frames ++ line_text b = rw front at s.spelled in
    let c_room : line_room c + length frames ≡ line_room b = rw front at s.room in
    record {
      front = head ++ (frames ++ end);
      spelled = rw (de, c_text, be) (sym (append_assoc head (frames ++ end)
          (line_text a)
          ∙ ap (λ text. head ++ text) (append_assoc frames end (line_text a))));
      room = omega (
        arith,
        dr,
        c_room,
        br,
        length-append head
            (frames ++ end),
        length-append frames end,
      );
      all = λ h. headed_is message (root_word root) (frames ++ end)
          ∙ ap (λ t. codes "m" ++ (decimal message ++ (codes " " ++ t)))
          (here_spelled C root outer switch same
          ∙ sym (append-nil (path_text root (path_in [] (open_parts C 0 outer)
          ++ discriminator_segments C outer switch))));
    }

-- the text of the frames grows by one segment a frame, from the innermost frame on
from_end : {X : Type 0} (xs : List X) (i : ℕ) (d : X) → 0 < i → i ≤ length xs →
    drop (i - 1) xs ≡ get_or xs (i - 1) d ∷ drop i xs
from_end xs i d p h = search (arith, drop_more)

pub frames_more : (C : Table) (outer : List Frame) (i : ℕ) (d : Frame) → 0 < i → i ≤ length outer →
    frames_text C (drop (i - 1) outer)
    ≡ frame_text C (get_or outer (i - 1) d) ++ frames_text C (drop i outer)
frames_more C outer i d p h = search (arith, from_end)

pub text_more : (C : Table) (outer : List Frame) (i : ℕ) (d : Frame) (a b : List ℕ)
    (text : List ℕ) → 0 < i → i ≤ length outer → a ≡ frames_text C (drop i outer) ++ text →
    b ≡ frame_text C (get_or outer (i - 1) d) ++ a →
    b ≡ frames_text C (drop (i - 1) outer) ++ text
text_more C outer i d a b text p h e n =
    let seg = frame_text C (get_or outer (i - 1) d) in
    rw (frames_more C outer i d p h) (n ∙ (ap (λ t. seg ++ t) e
    ∙ sym (append_assoc seg (frames_text C (drop i outer)) text)))
