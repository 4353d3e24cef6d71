-- VARENUM: the codes of values (Microsoft's wtypes.h). Assumes nothing.
use Rattle.std.specs.Prelude.{ℕ}

abbrev pub VT_EMPTY : ℕ
VT_EMPTY = 0

abbrev pub VT_NULL : ℕ
VT_NULL = 1

abbrev pub VT_I2 : ℕ
VT_I2 = 2

abbrev pub VT_I4 : ℕ
VT_I4 = 3

abbrev pub VT_R4 : ℕ
VT_R4 = 4

abbrev pub VT_R8 : ℕ
VT_R8 = 5

abbrev pub VT_CY : ℕ
VT_CY = 6

abbrev pub VT_DATE : ℕ
VT_DATE = 7

abbrev pub VT_BSTR : ℕ
VT_BSTR = 8

abbrev pub VT_DISPATCH : ℕ
VT_DISPATCH = 9

abbrev pub VT_ERROR : ℕ
VT_ERROR = 10

abbrev pub VT_BOOL : ℕ
VT_BOOL = 11

abbrev pub VT_VARIANT : ℕ
VT_VARIANT = 12

abbrev pub VT_UNKNOWN : ℕ
VT_UNKNOWN = 13

abbrev pub VT_DECIMAL : ℕ
VT_DECIMAL = 14

abbrev pub VT_I1 : ℕ
VT_I1 = 16

abbrev pub VT_UI1 : ℕ
VT_UI1 = 17

abbrev pub VT_UI2 : ℕ
VT_UI2 = 18

abbrev pub VT_UI4 : ℕ
VT_UI4 = 19

abbrev pub VT_I8 : ℕ
VT_I8 = 20

abbrev pub VT_UI8 : ℕ
VT_UI8 = 21

abbrev pub VT_INT : ℕ
VT_INT = 22

abbrev pub VT_UINT : ℕ
VT_UINT = 23

abbrev pub VT_VOID : ℕ
VT_VOID = 24

abbrev pub VT_HRESULT : ℕ
VT_HRESULT = 25

abbrev pub VT_PTR : ℕ
VT_PTR = 26

abbrev pub VT_SAFEARRAY : ℕ
VT_SAFEARRAY = 27

abbrev pub VT_CARRAY : ℕ
VT_CARRAY = 28

abbrev pub VT_USERDEFINED : ℕ
VT_USERDEFINED = 29

abbrev pub VT_FILETIME : ℕ
VT_FILETIME = 64
