-- The numbers of OLE Automation (Microsoft's oaidl.h). Assumes nothing.
use Rattle.std.specs.Prelude.{ℕ}

-- PARAMFLAG: how a parameter is passed
abbrev pub PARAMFLAG_FIN : ℕ
PARAMFLAG_FIN = 0x01

abbrev pub PARAMFLAG_FOUT : ℕ
PARAMFLAG_FOUT = 0x02

abbrev pub PARAMFLAG_FRETVAL : ℕ
PARAMFLAG_FRETVAL = 0x08

abbrev pub PARAMFLAG_FOPT : ℕ
PARAMFLAG_FOPT = 0x10

-- IMPLTYPEFLAG: how a coclass implements an interface
abbrev pub IMPLTYPEFLAG_FDEFAULT : ℕ
IMPLTYPEFLAG_FDEFAULT = 1

abbrev pub IMPLTYPEFLAG_FSOURCE : ℕ
IMPLTYPEFLAG_FSOURCE = 2

abbrev pub IMPLTYPEFLAG_FRESTRICTED : ℕ
IMPLTYPEFLAG_FRESTRICTED = 4
