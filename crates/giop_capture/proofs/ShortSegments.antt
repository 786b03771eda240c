-- The payload of a segment isn't longer than its packet.
use Rattle.std.proofs.Common.{◌≡◌, ℕ, zero, suc, ◌≤◌, List, Bool, true, false, Some, None, Option, length, take, drop, arith, option_map}
use Rattle.std.specs.Prelude.{if◌then◌else◌, ◌==◌}
use Rattle.std.proofs.lemmas.List.{length-drop, length-take}
use Rattle.tcp_segment.specs.declared.frame.Version.{Version}
use Rattle.tcp_segment.specs.declared.frame.Version.TheVariants.{V4, V6}
use Rattle.tcp_segment.specs.Octets.{◌>>=◌, provided}
use Rattle.tcp_segment.specs.Frames.{Packet, is_tag, behind_tag, behind_tags, version_of_type, packet_of_type, ethernet, cooked, cooked_2, loopback, raw, packet_of}
use Rattle.tcp_segment.specs.Datagrams.{Datagram, cut_to_length, ipv4_behind_header, ipv4, behind_extension, behind_extensions, ipv6_payload, tcp_behind_headers, between_hosts, ipv6, datagram_by, datagram_of}
use Rattle.tcp_segment.specs.Segments.{Segment, header_size, segment_in, segment}

-- if there is a value, its size is at most `most`
abbrev IsWithin : {A : Type 0} (size : A → ℕ) (most : ℕ) (a : Option A) → Type 0
IsWithin size most None = Unit {0}
IsWithin size most (Some a) = size a ≤ most

record Within {A : Type 0} (size : A → ℕ) (most : ℕ) (o : Option A) : Type 0 where
  within : IsWithin size most o

nothing : {A : Type 0} {size : A → ℕ} {most : ℕ} → Within size most None
nothing = record { within = tt }

something : {A : Type 0} {size : A → ℕ} {most : ℕ} (a : A) → size a ≤ most →
    Within size most (Some a)
something a h = record { within = h }

if_within : {A : Type 0} {size : A → ℕ} {most : ℕ} (c : Bool) (o p : Option A) → Within size most o
    → Within size most p → Within size most (if c then o else p)
if_within true o p h k = h
if_within false o p h k = k

provided_within : {A : Type 0} {size : A → ℕ} {most : ℕ} (c : Bool) (o : Option A) →
    Within size most o
    → Within size most (provided c o)
provided_within true o h = h
provided_within false o h = nothing

then_within : {A B : Type 0} (size : A → ℕ) (size' : B → ℕ) (most : ℕ) (o : Option A)
    (f : A → Option B)
    → Within size most o → ((a : A) → size a ≤ most → Within size' most (f a)) →
    Within size' most (o >>= f)
then_within size size' most None f h k = nothing
then_within size size' most (Some a) f h k = k a h.within

-- the same if nothing is known of the size of the first value
any_then : {A B : Type 0} (size' : B → ℕ) (most : ℕ) (o : Option A) (f : A → Option B)
    → ((a : A) → Within size' most (f a)) → Within size' most (o >>= f)
any_then size' most None f k = nothing
any_then size' most (Some a) f k = k a

-- ---- Frames.

abbrev tail_size : (p : ℕ × List ℕ) → ℕ
tail_size p = length p.1

abbrev packet_size : Packet → ℕ
packet_size p = length p.octets

abbrev datagram_size : Datagram → ℕ
datagram_size d = length d.octets

abbrev segment_size : Segment → ℕ
segment_size s = length s.payload

dropped : (n most : ℕ) (octets : List ℕ) → length octets ≤ most → length (drop n octets) ≤ most
dropped n most octets h = simp length-drop (omega arith)

taken : (n most : ℕ) (octets : List ℕ) → length octets ≤ most → length (take n octets) ≤ most
taken n most octets h = simp length-take (omega arith)

tag : (octets : List ℕ) (most : ℕ) → length octets ≤ most →
    Within tail_size most (behind_tag octets)
unfolding behind_tag
tag octets most h = provided_within _ _ (something _ (dropped 4 most octets h))

tags : (more kind : ℕ) (octets : List ℕ) (most : ℕ) → length octets ≤ most
    → Within tail_size most (behind_tags more kind octets)
unfolding behind_tags
tags zero kind octets most h = something _ h
tags (suc more) kind octets most h =
    if_within (is_tag kind) _ _
    (then_within tail_size tail_size most (behind_tag octets) _ (tag octets most h)
    (λ next k. tags more next.0 next.1 most k))
    (something (kind, octets) h)

typed_within : (kind : ℕ) (octets : List ℕ) (most : ℕ) → length octets ≤ most
    → Within packet_size most (packet_of_type kind octets)
unfolding packet_of_type
typed_within kind octets most h =
    then_within tail_size packet_size most (behind_tags 4 kind octets) _ (tags 4 kind octets most h)
    (λ next k. any_then packet_size most (version_of_type next.0) _ (λ version. something _ k))

framed : (link : ℕ) (octets : List ℕ) (most : ℕ) → length octets ≤ most
    → Within packet_size most (packet_of link octets)
unfolding packet_of
framed link octets most h =
    if_within _ (ethernet octets) _ (provided_within _ _
    (typed_within _ _ most (dropped 14 most octets h)))
    (if_within _ (cooked octets) _ (provided_within _ _
    (typed_within _ _ most (dropped 16 most octets h)))
    (if_within _ (cooked_2 octets) _ (provided_within _ _
    (typed_within _ _ most (dropped 20 most octets h)))
    (if_within _ (loopback octets) _ (provided_within _ _
    (any_then packet_size most _ _ (λ version. something _ (dropped 4 most octets h))))
    (if_within _ (raw octets) _ (any_then packet_size most _ _ (λ version. something _ h))
    (if_within (link == 228) _ _ (something (record { version = V4; octets = octets }) h)
    (if_within (link == 229) _ _ (something (record { version = V6; octets = octets }) h)
    nothing))))))

-- ---- Datagrams.

limit : (n : ℕ) (octets : List ℕ) (most : ℕ) → length octets ≤ most →
    length (cut_to_length n octets) ≤ most
unfolding cut_to_length
limit n octets most h = grind (arith, taken, h)

header : (octets packet : List ℕ) (most : ℕ) → length packet ≤ most
    → Within datagram_size most (ipv4_behind_header octets packet)
header octets packet most h = provided_within _ _ (something _ (dropped _ most packet h))

four : (octets : List ℕ) (most : ℕ) → length octets ≤ most → Within datagram_size most (ipv4 octets)
unfolding ipv4
four octets most h = provided_within _ _ (header octets _ most (limit _ octets most h))

extension : (kind : ℕ) (octets : List ℕ) (most : ℕ) → length octets ≤ most
    → Within tail_size most (behind_extension kind octets)
unfolding behind_extension
extension kind octets most h = provided_within _ _ (something _ (dropped _ most octets h))

extensions : (more kind : ℕ) (octets : List ℕ) (most : ℕ) → length octets ≤ most
    → Within tail_size most (behind_extensions more kind octets)
unfolding behind_extensions
extensions zero kind octets most h = something _ h
extensions (suc more) kind octets most h =
    if_within _ _ _
    (then_within tail_size tail_size most (behind_extension kind octets) _
    (extension kind octets most h) (λ next k. extensions more next.0 next.1 most k))
    (something (kind, octets) h)

headers : (octets : List ℕ) (most : ℕ) → length octets ≤ most →
    Within length most (tcp_behind_headers octets)
unfolding tcp_behind_headers ipv6_payload
headers octets most h =
    then_within tail_size length most (behind_extensions 8 _ (ipv6_payload octets)) _
    (extensions 8 _ (ipv6_payload octets) most (limit _ _ most (dropped 40 most octets h)))
    (λ upper k. provided_within _ _ (something _ k))

hosts : (octets : List ℕ) (most : ℕ) (o : Option (List ℕ)) → Within length most o
    → Within datagram_size most (option_map (between_hosts octets) o)
hosts octets most None h = nothing
hosts octets most (Some upper) h = something _ h.within

six : (octets : List ℕ) (most : ℕ) → length octets ≤ most → Within datagram_size most (ipv6 octets)
unfolding ipv6
six octets most h = provided_within _ _ (hosts octets most (tcp_behind_headers octets)
    (headers octets most h))

either : (version : Version) (octets : List ℕ) (most : ℕ) → length octets ≤ most
    → Within datagram_size most (datagram_by version octets)
either V4 octets most h = four octets most h
either V6 octets most h = six octets most h

-- ---- Segments.

carried : (d : Datagram) (most : ℕ) → datagram_size d ≤ most →
    Within segment_size most (segment_in d)
unfolding segment_in
carried d most h =
    any_then segment_size most (header_size d.octets) _
    (λ size. provided_within _ _ (something _ (dropped size most d.octets h)))

within : (link : ℕ) (octets : List ℕ) → Within segment_size (length octets) (segment link octets)
unfolding segment
within link octets =
    then_within packet_size segment_size (length octets) (packet_of link octets) _
    (framed link octets (length octets) (omega arith))
    (λ p k. then_within datagram_size segment_size (length octets) (datagram_of p) _
    (either p.version p.octets (length octets) k)
    (λ d l. carried d (length octets) l))

-- the payload of a packet's segment isn't longer than the packet
pub short : (link : ℕ) (octets : List ℕ) (s : Segment) → segment link octets ≡ Some s
    → length s.payload ≤ length octets
short link octets s e =
    let w : IsWithin segment_size (length octets) (segment link octets) =
    (within link octets).within in
    rw e at w
