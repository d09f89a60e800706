-- What a writer of streams is advised against (RFC 7845; RULES.md, 18): the findings on a whole stream, each with its page.
-- Assumes nothing.
use Rattle.std.specs.Prelude.{ℕ, suc, Bool, false, not, ◌&&◌, List, [], ◌∷◌, ◌++◌, map, ltb, eqb, length, take, drop}
use Rattle.octets.specs.Pick.{pick}
use Rattle.octets.specs.Octets.{Bytes}
use Rattle.stream.specs.Page.{page_of}
use Rattle.stream.specs.Readings.{Readings}
use Rattle.stream.specs.State.{is_ended}
use Rattle.stream.specs.Feed.{Entry}
use Rattle.stream.specs.Stream.{open_after, phase_of, Listing, listings}
use Rattle.feed_pages.specs.Feedings.{together}
use Rattle.recording_pages.specs.Places.{header_count}
use Rattle.tags_replaygain.specs.ReplayGain.{has_replay_gain}

-- ---- what the pages and their listings tell

-- the samples of the last of these packets, or n where there is none
unfoldable pub last_of : ℕ → List Entry → ℕ
last_of n [] = n
last_of n (e ∷ es) = last_of e.samples es

-- on these pages
unfoldable pub last_in : ℕ → List Listing → ℕ
last_in n [] = n
last_in n (l ∷ ls) = last_in (last_of n l.entries) ls

-- the comment packet: the bodies of the header pages after the first, which hold nothing else (10)
unfoldable pub comment_packet : List Bytes → Bytes
comment_packet S = together (map (λ (b : Bytes). (page_of b).body) (drop 1 (take (header_count S) S)))

-- ---- the conditions, each of a whole stream S and its page k, with the listing l; R reads it

-- page k is the last one
abbrev pub is_last : List Bytes → ℕ → Bool
is_last S k = eqb (suc k) (length S)

-- the last packet is left unfinished (RFC 7845, 3)
unfoldable pub left_unfinished : List Bytes → ℕ → Bool
left_unfinished S k = is_last S k && open_after false S

-- no page is marked last (RFC 7845, 3)
unfoldable pub has_no_end : List Bytes → ℕ → Bool
has_no_end S k = is_last S k && not (is_ended (phase_of S))

-- more samples are trimmed than the last packet has (RFC 7845, 4.4); a page before the last one trims none
unfoldable pub is_overtrimmed : Readings → List Bytes → ℕ → Listing → Bool
is_overtrimmed R S k l = is_last S k && ltb (last_in 0 (listings R S)) l.counts.trimmed

-- the comment packet completes here, and has a REPLAYGAIN tag (RFC 7845, 5.2.1)
unfoldable pub has_gain_tag : List Bytes → ℕ → Bool
has_gain_tag S k = eqb (suc k) (header_count S) && has_replay_gain (comment_packet S)

-- a hole lies before the packets of the page (RFC 7845, 4.1)
unfoldable pub has_hole : Listing → Bool
has_hole l = ltb 0 l.counts.hole

-- ---- the findings

-- a kind, by its number, and a page
pub record Finding : Type 0 where
  pub kind : ℕ
  pub page : ℕ

abbrev pub finding_if : Bool → ℕ → ℕ → List Finding
finding_if holds kind k = pick holds (record { kind = kind; page = k } ∷ []) []

-- on one page, in the order of their kinds
unfoldable pub findings_on : Readings → List Bytes → ℕ → Listing → List Finding
findings_on R S k l =
    finding_if (left_unfinished S k) 1 k
    ++ (finding_if (has_no_end S k) 2 k
    ++ (finding_if (is_overtrimmed R S k l) 3 k
    ++ (finding_if (has_gain_tag S k) 4 k
    ++ finding_if (has_hole l) 5 k)))

-- on the pages from page k on, with these listings
unfoldable pub findings_from : Readings → List Bytes → ℕ → List Listing → List Finding
findings_from R S k [] = []
findings_from R S k (l ∷ ls) = findings_on R S k l ++ findings_from R S (suc k) ls

-- in a whole stream, by page and then by kind
unfoldable pub findings : Readings → List Bytes → List Finding
findings R S = findings_from R S 0 (listings R S)
