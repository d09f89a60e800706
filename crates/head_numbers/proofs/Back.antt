-- A header comes back from its numbers: each is below its bound, so nothing is cut off. Assumes nothing.
use mathlib.Core.Path.{◌≡◌}
use Prim.Native.Nat.{◌%◌, ◌<◌}
use native.Mathlib.Omega.{arith}
use borrow.Author.Tests.{lt-ltb}
use mir.Syntax.{w16}
use mir.Val.{of_z}
use mir.Facts.{to_z-of_z}
use mir.ValLaws.{of_z_fits}
use Rattle.head_numbers.specs.Numbers.{all_below, fitting, head_from}
use Rattle.head_numbers.specs.Statements.{HeadBack}

pub head-back : HeadBack
unfolding all_below fitting head_from
head-back h w =
    let bits : of_z w16 h.gain < 65536 = (of_z_fits w16 h.gain w.wide.gain).fits in
    let version : h.version % 256 ≡ h.version = omega (arith, w.version) in
    let channels : h.channels % 256 ≡ h.channels = omega (arith, w.channels) in
    let preskip : h.preskip % 65536 ≡ h.preskip = omega (arith, w.wide.preskip) in
    let rate : h.rate % 4294967296 ≡ h.rate = omega (arith, w.wide.rate) in
    let gain : of_z w16 h.gain % 65536 ≡ of_z w16 h.gain = omega arith in
    let family : h.family % 256 ≡ h.family = omega (arith, w.family) in
    let streams : h.streams % 256 ≡ h.streams = omega (arith, w.streams) in
    let coupled : h.coupled % 256 ≡ h.coupled = omega (arith, w.coupled) in
    record {
      fit = rw (
        lt-ltb h.version 256 w.version,
        lt-ltb h.channels 256 w.channels,
        lt-ltb h.preskip 65536 w.wide.preskip,
        lt-ltb h.rate 4294967296 w.wide.rate,
        lt-ltb (of_z w16 h.gain) 65536 bits,
        lt-ltb h.family 256 w.family,
        lt-ltb h.streams 256 w.streams,
        lt-ltb h.coupled 256 w.coupled,
      );
      same = rw (version, channels, preskip, rate, gain, to_z-of_z w.wide.gain, family, streams, coupled);
    }
