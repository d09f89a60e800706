-- A page of the comment packet, after 9 to 11: what is in the carry buffer, 14, and the reader that follows. Assumes nothing.
use Rattle.std.specs.Prelude.{Ok, Err}
use Prim.Native.Nat.{ℕ, ◌+◌, ◌≤◌}
use mathlib.Core.Path.{◌≡◌, refl, sym, ap, ◌∙◌}
use mathlib.Core.Bool.{Bool, true, false, not, true≢false}
use mathlib.Core.List.{[], ◌∷◌, ◌++◌}
use mathlib.Core.Option.{Option, none, some}
use native.Mathlib.Omega.{arith}
use lib.ListN.{length, take, drop}
use lib.Seq.{take-length, drop_at}
use Rattle.octets.specs.Pick.{pick}
use Rattle.octets.specs.Octets.{Bytes, total, copied}
use Rattle.octets.proofs.Copying.{copied-fits, length-copied}
use Rattle.refusal.specs.declared.Refusal.{Refusal}
use Rattle.refusal.specs.declared.Refusal.TheVariants.{PacketTooLong, HeaderShape, BadTags}
use Rattle.refusal.specs.Checks.{first_of}
use Rattle.refusal.specs.Numbers.{number_of}
use Rattle.refusal.specs.Told.{gives, refuses, decided, retold, number_in}
use Rattle.refusal.proofs.Checks.{passed}
use Rattle.page_layout.specs.declared.PageHeader.{PageHeader}
use Rattle.tags_layout.specs.Layout.{Tags, tags_of}
use Rattle.tags_reader.specs.Right.{is_tags}
use Rattle.tags_reader.specs.Reading.{read_checks, read_tags, comment_count}
use Rattle.stream.specs.declared.Phase.TheVariants.{Comment, Audio}
use Rattle.stream.specs.declared.Pending.{Pending}
use Rattle.stream.specs.declared.Pending.TheVariants.{Nothing, Held, Dropped}
use Rattle.stream.specs.declared.Core.{Core}
use Rattle.stream.specs.declared.Tally.{Tally}
use Rattle.stream.specs.Page.{Page, whole, rest, page_with}
use Rattle.stream.specs.Readings.{Readings, readings}
use Rattle.stream.specs.State.{State, in_headers}
use Rattle.stream.specs.Packets.{join, seen, is_long}
use Rattle.limits.specs.Limits.{packet_max}
use Rattle.stream.specs.Lent.{Lent, with_carry}
use Rattle.stream.specs.Shape.{shape_of, is_other, wrong_shape}
use Rattle.stream.specs.Rules.{first_packet, lacing_checks, next_on}
use Rattle.stream.specs.Feed.{carried_in, pending_of, core_of, view, skip_on, tally_after, first_piece, appended, new_rest, with_rest, carry_after, no_counts, reader_of, FedIs, told_page}
use Rattle.stream.specs.Feedings.{held_of}
use Rattle.stream.proofs.Pieces.{non_empty, Fits, piece-fits}
use Rattle.stream.proofs.Carry.{fresh, joined-there}
use Rattle.stream.specs.declared.Shape.{Shape}
use Rattle.stream.specs.declared.Shape.TheVariants.{Ends, GoesOn, Other}
use Rattle.feed_header.proofs.HeaderPages.{says_last, says-earlier, done_by_pieces}
use Rattle.feed_header.proofs.Late.{late_in, refused_below_12, refused_late, past-lacing, accepted}
use Rattle.feed_header.specs.Header.{header_on, header_fed, checks9to14}
use Rattle.feed_header.specs.Code.{longer, Within}
use Rattle.feed_next.specs.Next.{core_after}

-- ---- the carry buffer c, and the piece b

-- the same copy twice
again : (b c : Bytes) → length b ≤ length c → copied (copied c 0 b) 0 b ≡ copied c 0 b
again b c h =
    let r : Bytes = drop (0 + length b) c in
    let once : copied c 0 b ≡ b ++ r = copied-fits c 0 b (omega arith) ∙ rw (take-length b) in
    let size : length (b ++ r) ≡ length c = ap length (sym once) ∙ length-copied c 0 b in
    rw once (copied-fits (b ++ r) 0 b (omega arith) ∙ rw (take-length b, drop_at b r (0 + length b) (omega arith)))

within : (k : Pending) (c b : Bytes) → Fits (carried_in k c) b → Within k (length b)
within Nothing c b f = f
within (Held n) c b f = f
within Dropped c b f = tt

packet-there : (k : Pending) (c b : Bytes) → packet_max ≤ length c → Within k (length b)
    → take (held_of (longer k (length b))) (appended Comment (carried_in k c) b c) ≡ first_packet (join (carried_in k c) (b ∷ []) none).packets
unfolding join
packet-there Nothing c b room w = fresh b c (let small : length b ≤ packet_max = w in omega arith)
packet-there (Held n) c b room w = joined-there n b c (let small : n + length b ≤ packet_max = w in omega arith)
packet-there Dropped c b room w = refl

left-last : (k : Pending) (c b : Bytes) → pending_of (join (carried_in k c) (b ∷ []) none).left ≡ Nothing
unfolding join
left-last Nothing c b = refl
left-last (Held n) c b = refl
left-last Dropped c b = refl

left-earlier : (k : Pending) (c b : Bytes) → pending_of (join (carried_in k c) [] (some b)).left ≡ longer k (length b)
unfolding join
left-earlier Nothing c b = refl
left-earlier (Held n) c b = refl
left-earlier Dropped c b = refl

carry-last : (k : Pending) (c b : Bytes) → appended Comment (carried_in k c) b c ≡ with_rest (new_rest (carried_in k c) (b ∷ []) none) (appended Comment (carried_in k c) b c)
carry-last Nothing c b = refl
carry-last (Held n) c b = refl
carry-last Dropped c b = refl

carry-earlier : (k : Pending) (c b : Bytes) → packet_max ≤ length c → Within k (length b)
    → appended Comment (carried_in k c) b c ≡ with_rest (new_rest (carried_in k c) [] (some b)) (appended Comment (carried_in k c) b c)
carry-earlier Nothing c b room w = sym (again b c (let small : length b ≤ packet_max = w in omega arith))
carry-earlier (Held n) c b room w = refl
carry-earlier Dropped c b room w = refl

-- ---- what reading the comment packet told

no_tags : (v : Option Refusal) (x : Tags) (n : ℕ) → gives n ≡ retold comment_count (decided v x) → v ≡ none
no_tags none x n e = refl
no_tags (some r) x n e = let z : ◌≡◌ {A = ℕ} 0 1 = cc in absurd (omega arith)

wrong-tags : (a : Bool) (x : Tags) (why : Refusal) → refuses (number_of why) ≡ retold comment_count (decided (pick a (some BadTags) none) x)
    → (decided (pick a (some BadTags) none) x ≡ refuses (number_of why)) × (late_in (pick a (some BadTags) none) ≡ true)
wrong-tags true x why e = (ap refuses (sym (ap number_in e)), refl)
wrong-tags false x why e = let z : ◌≡◌ {A = ℕ} 0 1 = cc in absurd (omega arith)

-- ---- the page

module _ (core : Core) (c : Bytes) (h : PageHeader) (lacing body : Bytes) (sums : total lacing ≡ length body)
    (clear : first_of (lacing_checks (view core c) (page_with h lacing body) (seen (view core c) (page_with h lacing body))) ≡ none) where
  fits : first_piece (whole (page_with h lacing body)) (rest (page_with h lacing body)) ≡ body → Within core.pending (length body)
  fits e =
      within core.pending c body
      (rw e at (piece-fits (carried_in core.pending c) (page_with h lacing body) (passed PacketTooLong (is_long (carried_in core.pending c) lacing) _ clear).0))

  last_fits : shape_of lacing ≡ Ends → Within core.pending (length body)
  last_fits e = fits (rw (says_last (page_with h lacing body) sums e).0)

  earlier-fits : shape_of lacing ≡ GoesOn → Within core.pending (length body)
  earlier-fits e = fits (rw ((says-earlier (page_with h lacing body) sums e).0, (says-earlier (page_with h lacing body) sums e).1))

  -- 10 lets only a piece of the packet pass
  pub piece-shape : core.phase ≡ Comment → is_other (shape_of lacing) ≡ false
  piece-shape comment =
      let passes = (passed PacketTooLong (is_long (carried_in core.pending c) lacing) _ clear).1 in
      rw comment at (passed HeaderShape (wrong_shape core.phase (shape_of lacing)) _ passes).0

  pub piece-within : core.phase ≡ Comment → Within core.pending (length body)
  piece-within comment = by (shape_of lacing) refl
    where
      by : (s : Shape) → shape_of lacing ≡ s → Within core.pending (length body)
      by Ends e = last_fits e
      by GoesOn e = earlier-fits e
      by Other e = absurd (true≢false (sym (ap is_other e) ∙ piece-shape comment))

module _ (crc : Bytes → ℕ) (core : Core) (tally : Tally) (c : Bytes) (lists : Lent) (h : PageHeader) (lacing body : Bytes) (comment : core.phase ≡ Comment) where
  abbrev m : Lent
  m = with_carry lists c

  abbrev t : State
  t = view core c

  abbrev p : Page
  p = page_with h lacing body

  abbrev R : Readings
  R = readings crc

  inside : in_headers core.phase ≡ true
  inside = rw comment

  pub comment_below_12 : (n : Refusal) → first_of (lacing_checks t p (seen t p)) ≡ some n → FedIs (header_on (readings crc) (reader_of core tally) m (page_with h lacing body)) (told_page (Err n)) m
  unfolding header_fed
  comment_below_12 n e = refused_below_12 R t p (seen t p) (record { core = core; tally = tally }) m n e

  skip-stays : tally.skip ≡ skip_on R tally.skip t p (seen t p)
  unfolding skip_on
  skip-stays = rw comment

  module _ (sums : total lacing ≡ length body) (clear : first_of (lacing_checks t p (seen t p)) ≡ none) where
    -- the last piece
    module _ (e : shape_of lacing ≡ Ends) where
      one : (whole p ≡ body ∷ []) × (rest p ≡ none)
      one = says_last p sums e

      last_done : (seen t p).completes ≡ true
      last_done = done_by_pieces t p ∙ ap non_empty one.0

      packet-is : packet_max ≤ length c → take (held_of (longer core.pending (length body))) (appended Comment t.carried body c) ≡ first_packet (seen t p).packets
      unfolding seen
      packet-is room = rw (one.0, one.1) (packet-there core.pending c body room (piece-within core c h lacing body sums clear comment))

      last_found : first_of (checks9to14 R t p (seen t p)) ≡ first_of (read_checks (first_packet (seen t p).packets))
      unfolding first_of readings
      last_found = past-lacing R t p (seen t p) clear ∙ rw (last_done, comment)

      last-left : pending_of (seen t p).left ≡ Nothing
      unfolding seen
      last-left = rw (one.0, one.1) (left-last core.pending c body)

      last-next : core_after h Audio Nothing core.position core.streams core.preskip ≡ core_of (next_on R t p (seen t p))
      unfolding next_on
      last-next = rw (last_done, last-left, comment)

      last-carry : appended Comment t.carried body c ≡ carry_after none t p c
      unfolding carry_after
      last-carry = rw (comment, one.0, one.1) (carry-last core.pending c body)

      module _ {d b : Bytes} {n : ℕ} (room : packet_max ≤ length c) (written : d ≡ appended Comment t.carried body c) (size : n ≡ held_of (longer core.pending (length body))) (part : b ≡ take n d) where
        is-packet : b ≡ first_packet (seen t p).packets
        is-packet = part ∙ (rw (size, written) (packet-is room))

        pub last-accepted : {k : ℕ} → gives k ≡ retold comment_count (read_tags b)
            → FedIs (header_on (readings crc) (reader_of core tally) m (page_with h lacing body)) (told_page (Ok (record { core = (core_after h Audio Nothing core.position core.streams core.preskip); tally = (tally_after tally tally.skip no_counts); counts = no_counts }))) (with_carry lists d)
        unfolding header_fed read_tags
        last-accepted {k} r =
            accepted R t p (seen t p) (record { core = core; tally = tally }) m inside (first_of (checks9to14 R t p (seen t p))) _ _ d
            (last_found ∙ ap (λ (x : Bytes). first_of (read_checks x)) (sym is-packet) ∙ no_tags (first_of (read_checks b)) (tags_of b) k r)
            last-next skip-stays (written ∙ last-carry)

        pub last-refused : (why : Refusal) → refuses (number_of why) ≡ retold comment_count (read_tags b)
            → FedIs (header_on (readings crc) (reader_of core tally) m (page_with h lacing body)) (told_page (Err why)) (with_carry lists d)
        unfolding header_fed read_tags first_of
        last-refused why r =
            let found = last_found ∙ ap (λ (x : Bytes). first_of (read_checks x)) (sym is-packet) in
            let wrong = wrong-tags (not (is_tags b)) (tags_of b) why r in
            refused_late R t p (seen t p) (record { core = core; tally = tally }) m (first_of (checks9to14 R t p (seen t p))) (tags_of b) why d
            (ap (λ (v : Option Refusal). decided v (tags_of b)) found ∙ wrong.0) (ap late_in found ∙ wrong.1) (written ∙ rw (comment, one.0))

    -- an earlier piece
    module _ (e : shape_of lacing ≡ GoesOn) where
      all : (whole p ≡ []) × (rest p ≡ some body)
      all = says-earlier p sums e

      earlier-done : (seen t p).completes ≡ false
      earlier-done = done_by_pieces t p ∙ ap non_empty all.0

      earlier-found : first_of (checks9to14 R t p (seen t p)) ≡ none
      unfolding first_of
      earlier-found = past-lacing R t p (seen t p) clear ∙ rw (earlier-done, comment)

      earlier-left : pending_of (seen t p).left ≡ longer core.pending (length body)
      unfolding seen
      earlier-left = rw (all.0, all.1) (left-earlier core.pending c body)

      earlier-next : core_after h Comment (longer core.pending (length body)) core.position core.streams core.preskip ≡ core_of (next_on R t p (seen t p))
      unfolding next_on
      earlier-next = rw (earlier-done, earlier-left, comment)

      pub earlier-accepted : {d : Bytes} → packet_max ≤ length c → d ≡ appended Comment t.carried body c
          → FedIs (header_on (readings crc) (reader_of core tally) m (page_with h lacing body)) (told_page (Ok (record { core = core_after h Comment (longer core.pending (length body)) core.position core.streams core.preskip; tally = tally_after tally tally.skip no_counts; counts = no_counts }))) (with_carry lists d)
      unfolding header_fed carry_after
      earlier-accepted {d} room written =
          accepted R t p (seen t p) (record { core = core; tally = tally }) m inside (first_of (checks9to14 R t p (seen t p))) _ _ d earlier-found earlier-next skip-stays
          (written ∙ rw (comment, all.0, all.1) (carry-earlier core.pending c body room (piece-within core c h lacing body sums clear comment)))
