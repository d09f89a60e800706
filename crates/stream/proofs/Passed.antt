-- What a page that passes has passed, check by check, by name. Assumes nothing.
use mathlib.Core.Path.{◌≡◌, ap, ◌∙◌}
use mathlib.Core.Bool.{Bool, true, false, not, ◌&&◌, beq}
use mathlib.Core.List.{List, [], ◌++◌}
use mathlib.Core.Option.{none}
use lib.Dec.{ltb, eqb}
use Rattle.octets.specs.Pick.{pick}
use Rattle.octets.specs.Octets.{Bytes}
use Rattle.refusal.specs.Checks.{Check, first_of}
use Rattle.granule.specs.Judging.{granule_wrong, is_joined, is_unset, too_small, judge_checks}
use Rattle.stream.specs.Page.{page_of, continued, last, granule_of}
use Rattle.stream.specs.Readings.{Readings}
use Rattle.stream.specs.State.{State, is_ended, is_first, is_comment, unfinished}
use Rattle.stream.specs.Packets.{Seen, is_long, audio_packets, measures_of, samples_of}
use Rattle.stream.specs.Rules.{wrong_flags, granule_most, first_packet, audio_completes, shape_checks, packet_checks, time_checks, checks_on}
use Rattle.stream.specs.Shape.{shape_of, wrong_shape}
use Rattle.stream.proofs.Clear.{Clear, clear, passes, past, clear_left, clear_right}

-- 2 to 16
pub record Shaped (R : Readings) (s : State) (b : Bytes) (x : Seen) : Type 0 where
  pub going : is_ended s.phase ≡ false
  pub page : not (R.is_page b) ≡ false
  pub checksum : not (R.is_checksummed b) ≡ false
  pub serial : not (eqb (page_of b).header.serial s.serial) ≡ false
  pub sequence : not (eqb (page_of b).header.sequence s.next) ≡ false
  pub flags : wrong_flags s.phase (page_of b).header.flags ≡ false
  pub continues : not (beq (continued (page_of b)) (unfinished s.carried)) ≡ false
  pub short : is_long s.carried (page_of b).lacing ≡ false
  pub shape : wrong_shape s.phase (shape_of (page_of b).lacing) ≡ false
  pub granule : granule_wrong (granule_most s.phase) x.completes (granule_of (page_of b)) ≡ false
  pub head : (is_first s.phase && not (R.is_head (first_packet x.packets))) ≡ false
  pub mapping : (is_first s.phase && not (R.is_mapped (first_packet x.packets))) ≡ false
  pub tags : (is_comment s.phase && (x.completes && not (R.is_tags (first_packet x.packets)))) ≡ false
  pub packets : Clear (packet_checks R s.streams (audio_packets s x))

-- 19, 18, 17, where an audio packet completes
pub record Timed (R : Readings) (s : State) (b : Bytes) (x : Seen) : Type 0 where
  pub stands : (last (page_of b) && is_joined s.position) ≡ false
  pub skips : (last (page_of b) && (is_unset s.position && ltb (granule_of (page_of b)) s.preskip)) ≡ false
  pub reaches : too_small s.position (last (page_of b)) (granule_of (page_of b)) (samples_of (measures_of R s x)) ≡ false

module _ (R : Readings) (s : State) (b : Bytes) (x : Seen) where
  abbrev later : List Check
  later = packet_checks R s.streams (audio_packets s x) ++ time_checks R s (page_of b) x

  pub shaped : first_of (checks_on R s b x) ≡ none → Shaped R s b x
  unfolding checks_on
  shaped v =
      let all : Clear (shape_checks R s b x ++ later) = clear (shape_checks R s b x ++ later) v in
      let k : Clear (shape_checks R s b x) = clear_left (shape_checks R s b x) later all in
      let m : Clear later = clear_right (shape_checks R s b x) later all in
      record {
        going = k.0;
        page = k.1.0;
        checksum = k.1.1.0;
        serial = k.1.1.1.0;
        sequence = k.1.1.1.1.0;
        flags = k.1.1.1.1.1.0;
        continues = k.1.1.1.1.1.1.0;
        short = k.1.1.1.1.1.1.1.0;
        shape = k.1.1.1.1.1.1.1.1.0;
        granule = k.1.1.1.1.1.1.1.1.1.0;
        head = k.1.1.1.1.1.1.1.1.1.1.0;
        mapping = k.1.1.1.1.1.1.1.1.1.1.1.0;
        tags = k.1.1.1.1.1.1.1.1.1.1.1.1.0;
        packets = clear_left (packet_checks R s.streams (audio_packets s x)) (time_checks R s (page_of b) x) m;
      }

  -- past 16 the answer is that of 19, 18, 17
  pub past-shape : Shaped R s b x → first_of (checks_on R s b x) ≡ first_of (time_checks R s (page_of b) x)
  unfolding checks_on
  past-shape k =
      past (shape_checks R s b x) later
      (k.going, (k.page, (k.checksum, (k.serial, (k.sequence, (k.flags, (k.continues, (k.short, (k.shape, (k.granule, (k.head, (k.mapping, (k.tags, tt)))))))))))))
      ∙ past (packet_checks R s.streams (audio_packets s x)) (time_checks R s (page_of b) x) k.packets

  abbrev judging : List Check
  judging = judge_checks s.position s.preskip (granule_of (page_of b)) (samples_of (measures_of R s x)) (last (page_of b))

  pub timed : audio_completes s x ≡ true → first_of (checks_on R s b x) ≡ none → Timed R s b x
  unfolding checks_on time_checks
  timed e v =
      let m : Clear later = clear_right (shape_checks R s b x) later (clear (shape_checks R s b x ++ later) v) in
      let k : Clear (pick (audio_completes s x) judging []) = clear_right (packet_checks R s.streams (audio_packets s x)) (time_checks R s (page_of b) x) m in
      let t : Clear judging = rw e at k in
      record { stands = t.0; skips = t.1.0; reaches = t.1.1.0 }

  pub completing_passes : audio_completes s x ≡ true → Shaped R s b x → Timed R s b x → first_of (checks_on R s b x) ≡ none
  unfolding time_checks
  completing_passes e k t =
      past-shape k ∙ ap (λ (w : Bool). first_of (pick w judging [])) e ∙ passes judging (t.stands, (t.skips, (t.reaches, tt)))

  pub piece_passes : audio_completes s x ≡ false → Shaped R s b x → first_of (checks_on R s b x) ≡ none
  unfolding time_checks first_of
  piece_passes e k = past-shape k ∙ ap (λ (w : Bool). first_of (pick w judging [])) e
