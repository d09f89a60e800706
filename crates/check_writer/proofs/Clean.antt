-- What our own writers make is a whole stream without a finding. Assumes nothing.
use Prim.Native.Nat.{ℕ, zero, suc, ◌+◌, ◌≤◌}
use mathlib.Core.Path.{◌≡◌, refl, ap, ap₂, ◌∙◌}
use mathlib.Core.Bool.{Bool, true, false, ◌&&◌}
use mathlib.Core.List.{List, [], ◌∷◌, map, append-nil}
use mathlib.Core.Option.{none}
use native.Mathlib.Omega.{arith}
use borrow.Author.Tests.{le-ltb}
use lib.Dec.{ltb}
use lib.ListN.{length}
use Rattle.octets.specs.Pick.{pick}
use Rattle.octets.specs.Octets.{Bytes, total}
use Rattle.page_layout.specs.declared.PageHeader.{PageHeader}
use Rattle.head_fields.specs.declared.Head.{Head}
use Rattle.granule.specs.declared.Position.TheVariants.{Unset, At}
use Rattle.granule.specs.Samples.{one, tally}
use Rattle.granule.specs.Judging.{from}
use Rattle.tags_reader.specs.Right.{is_tags}
use Rattle.stream.specs.declared.Phase.TheVariants.{Comment, Audio, Ended}
use Rattle.stream.specs.Page.{page_of, completes, last}
use Rattle.stream.specs.Readings.{readings}
use Rattle.stream.specs.State.{State}
use Rattle.stream.specs.Packets.{samples_of}
use Rattle.stream.specs.Rules.{first_packet}
use Rattle.stream.specs.Stream.{segments_of, packets_from, open_from, open_after, head_of, after_comment, audio_pages, ended_after, comment_phase, phase_of, Mark, decoded, measures_from, mark_from, sample_trimmed, entries_from, Listing, listing_from, nothing_listed, audio_listings, comment_listings, listings}
use Rattle.feed_pages.specs.Feedings.{together}
use Rattle.recording.specs.Judging.{whole, first_refused, fresh, packets_in, judge_pages}
use Rattle.recording_pages.specs.Places.{header_count}
use Rattle.tags_replaygain.specs.ReplayGain.{any_replay_gain, has_replay_gain}
use Rattle.check_rules.specs.Findings.{last_of, last_in, comment_packet, left_unfinished, has_no_end, is_overtrimmed, has_gain_tag, has_hole, findings_on, findings_from, findings}
use Rattle.demands.proofs.Example.{Reads}
use Rattle.check_writer.specs.Written.{page_for, head_packet, tags_packet, written_pages, Given, WrittenClean}
use Rattle.check_writer.proofs.Laced.{laced_ends, laced_open, laced_packets}
use Rattle.check_writer.proofs.Packets.{head-is, head_right, head_mapped, head-short, tags_right, no_comments, tags-short}
use Rattle.check_writer.proofs.Steps.{R, header_for, page_with, page-reads, state, Step, first_step, second_step, third_step}

-- no more samples are counted than there are
tally-most : (test : ℕ → Bool) (n : ℕ) → tally test n ≤ n
unfolding tally
tally-most test zero = omega arith
tally-most test (suc n) = by (test n) (tally-most test n)
  where
    by : (t : Bool) → tally test n ≤ n → tally test n + one t ≤ suc n
    by true h = omega arith
    by false h = omega arith

-- ---- a page of one packet

module _ (bytes : Bytes) (h : PageHeader) (b : Bytes) (k : Reads bytes (page_with h b)) where
  done : completes (page_of bytes) ≡ true
  unfolding completes
  done = rw k.page (laced_ends b)

  closed : (o : Bool) → open_from o (segments_of (page_of bytes)) ≡ false
  unfolding segments_of
  closed o = rw k.page (laced_open b o)

  packet : packets_from [] (segments_of (page_of bytes)) ≡ b ∷ []
  unfolding segments_of
  packet = rw k.page (laced_packets b)

-- ---- the listing of the third page

module _ (n preskip : ℕ) (bytes : Bytes) (h : PageHeader) (b : Bytes) (k : Reads bytes (page_with h b)) (is : (R.measure_of n b).samples ≡ 960) where
  abbrev mark : Mark
  mark = mark_from R n [] (page_of bytes)

  abbrev listing : Listing
  listing = listing_from preskip Unset 0 true mark

  measured : measures_from R n [] (page_of bytes) ≡ R.measure_of n b ∷ []
  measured = ap (map (R.measure_of n)) (packet bytes h b k)

  all-samples : decoded mark ≡ 960
  unfolding samples_of
  all-samples = ap samples_of measured ∙ omega (arith, is)

  last-samples : last_of 0 listing.entries ≡ 960
  unfolding entries_from last_of
  last-samples = rw measured is

  one-packet : listing.counts.packets ≡ 1
  one-packet = ap length measured

  few-trimmed : listing.counts.trimmed ≤ 960
  few-trimmed = let most = tally-most (sample_trimmed 0 mark (from Unset mark.last mark.granule (decoded mark))) (decoded mark) in omega (arith, all-samples)

-- ---- the stream

and-false : (a : Bool) → a && false ≡ false
and-false true = refl
and-false false = refl

module _ (serial : ℕ) (h : Head) (m vendor b : Bytes) (g : Given serial h m vendor b) where
  abbrev b0 : Bytes
  b0 = head_packet h m

  abbrev b1 : Bytes
  b1 = tags_packet vendor

  abbrev p0 : Bytes
  p0 = page_for 2 0 serial 0 b0

  abbrev p1 : Bytes
  p1 = page_for 0 0 serial 1 b1

  abbrev p2 : Bytes
  p2 = page_for 4 960 serial 2 b

  abbrev S : List Bytes
  S = p0 ∷ p1 ∷ p2 ∷ []

  k0 : Reads p0 (page_with (header_for 2 0 serial 0) b0)
  k0 = page-reads (header_for 2 0 serial 0) b0 (record { flags = omega arith; granule = omega arith; serial = g.small; sequence = omega arith })

  k1 : Reads p1 (page_with (header_for 0 0 serial 1) b1)
  k1 = page-reads (header_for 0 0 serial 1) b1 (record { flags = omega arith; granule = omega arith; serial = g.small; sequence = omega arith })

  k2 : Reads p2 (page_with (header_for 4 960 serial 2) b)
  k2 = page-reads (header_for 4 960 serial 2) b (record { flags = omega arith; granule = omega arith; serial = g.small; sequence = omega arith })

  head : R.head_of b0 ≡ h
  unfolding readings
  head = head-is h m g.wide g.mapping g.head

  abbrev s1 : State
  s1 = state Comment Unset serial 1 h.streams h.preskip

  abbrev s2 : State
  s2 = state Audio Unset serial 2 h.streams h.preskip

  step0 : Step fresh p0 s1
  unfolding readings
  step0 =
      first_step serial g.small h b0 (head_right h m g.wide g.mapping g.head) (head_mapped h m g.wide g.mapping g.head)
      head (head-short h m g.wide g.mapping g.head)

  step1 : Step s1 p1 s2
  unfolding readings
  step1 = second_step serial g.small h b1 (tags_right vendor g.text g.room) (tags-short vendor g.text g.room)

  step2 : Step s2 p2 (state Ended (At 960) serial 3 h.streams h.preskip)
  step2 = third_step serial g.small h b g.preskip g.legal g.alike g.size

  accepted : first_refused R fresh 0 S ≡ none
  unfolding first_refused
  accepted = rw (step0.passes, step0.follows, step1.passes, step1.follows, step2.passes) refl

  ended : phase_of S ≡ Ended
  unfolding phase_of comment_phase ended_after last
  ended = rw (done p1 _ b1 k1, k2.page) refl

  headers : header_count S ≡ 2
  unfolding header_count audio_pages after_comment
  headers = rw (done p1 _ b1 k1) refl

  finished : open_after false S ≡ false
  unfolding open_after
  finished = rw (closed p0 _ b0 k0 false, closed p1 _ b1 k1 false, closed p2 _ b k2 false) refl

  comments : comment_packet S ≡ b1
  unfolding comment_packet together
  comments = rw (headers, k1.page) (append-nil b1)

  abbrev third : Listing
  third = listing h.streams h.preskip p2 _ b k2 g.samples

  the_head : head_of R S ≡ h
  unfolding head_of
  the_head = ap (λ (l : List Bytes). R.head_of (first_packet l)) (packet p0 _ b0 k0) ∙ head

  -- what the third page lists, by the header and whether a packet completes on the pages
  listed_by : Head → Bool → Bool → List Listing
  listed_by a c d = nothing_listed ∷ nothing_listed ∷ pick c (listing_from a.preskip Unset 0 d (mark_from R a.streams [] (page_of p2)) ∷ []) (comment_listings R a (p2 ∷ []))

  listed : listings R S ≡ nothing_listed ∷ nothing_listed ∷ third ∷ []
  unfolding listings comment_listings audio_listings listed_by
  listed =
      ap (λ (a : Head). listed_by a (completes (page_of p1)) (completes (page_of p2))) the_head
      ∙ ap₂ (listed_by h) (done p1 _ b1 k1) (done p2 _ b k2)

  gainless : has_replay_gain (comment_packet S) ≡ false
  unfolding has_replay_gain any_replay_gain
  gainless = rw (comments, no_comments vendor g.text g.room) (and-false (is_tags b1))

  trimmed-few : ltb (last_in 0 (listings R S)) third.counts.trimmed ≡ false
  unfolding last_in last_of
  trimmed-few =
      let most = few-trimmed h.streams h.preskip p2 _ b k2 g.samples in
      rw (listed, last-samples h.streams h.preskip p2 _ b k2 g.samples) (le-ltb 960 third.counts.trimmed most)

  nothing-found : findings R S ≡ []
  unfolding findings findings_from findings_on left_unfinished has_no_end is_overtrimmed has_gain_tag has_hole
  nothing-found = rw (listed, headers, finished, ended, gainless, trimmed-few) refl

  judged : judge_pages R S ≡ whole 3 1
  unfolding judge_pages packets_in total
  judged = rw (accepted, ended, listed, one-packet h.streams h.preskip p2 _ b k2 g.samples) refl

pub written_clean : WrittenClean
unfolding written_pages
written_clean serial h m vendor packet g = record {
  judged = judged serial h m vendor packet g;
  none = nothing-found serial h m vendor packet g;
}
