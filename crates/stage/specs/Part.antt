-- The stages of one part of a test (01, Bag sheet and figures), from its fields and its bags' ends to its rates. "Every stage gives a lower
-- end rounded down and an upper end rounded up". Numbers of the sheet are naturals, in the sheet's units.
use Rattle.std.specs.Prelude.{Bool, ℕ, ◌-◌, ◌*◌, leb, ℤ, pos, ◌+ℤ◌, ◌*ℤ◌}
use Rattle.std.specs.Int.Signed.{lt_z}
use Rattle.arith.specs.declared.Ends.{Ends}
use Rattle.arith.specs.Stages.{exactly, difference_of, scaled_by, product_of, divided_by}
use Rattle.stage.specs.Combination.{combination_of}

-- ---- volume
-- what the volume is stated for: temperature and zero of the Celsius scale in 0.05 K, pressure in Pa
pub record Reference : Type 0 where
  pub temperature : ℕ
  pub pressure : ℕ
  pub zero : ℕ

-- 001, equation 8-1: 293.15 K, 101.325 kPa, 273.15 K
abbrev pub gtr : Reference
gtr = record { temperature = 5863; pressure = 101325; zero = 5463 }

-- 01's own constants: 273.2 K, 101.3 kPa, 273.2 K
abbrev pub scope : Reference
scope = record { temperature = 5464; pressure = 101300; zero = 5464 }

-- a temperature in 0.1 degree C above absolute zero, in 0.05 K
abbrev pub kelvin_of : Reference → ℤ → ℤ
kelvin_of reference temperature = pos 2 *ℤ temperature +ℤ pos reference.zero

-- "Volume, ml: fields 1 x 2 x (Pa - Pi) x 2,732 / (101,300 (T + 2,732))", over its constants
unfoldable pub volume_of : Reference → ℕ → ℕ → ℕ → ℕ → ℤ → Ends
volume_of reference pump revolutions barometer depression temperature =
    divided_by (exactly (pos (pump * revolutions * (barometer - depression) * reference.temperature)))
    (pos reference.pressure *ℤ kelvin_of reference temperature)

-- ---- dilution
-- "G = 10 CO2 + wc CO + wh HC in bag units" (001, equations 8-12 and 8-13: 1/DF = G/Q)
unfoldable pub g_of : Ends → Ends → Ends → ℕ → ℕ → Ends
g_of co2 co hc wc wh = combination_of 10 co2 wc co wh hc

-- "Q = 2,560,000 D"
abbrev pub q_of : ℕ → ℕ
q_of d = 2560000 * d

-- "G must be below Q"
abbrev pub dilution_good : Ends → ℕ → Bool
dilution_good g q = lt_z g.upper (pos q)

-- bag Q - air (Q - G)
abbrev pub net_of : Ends → Ends → Ends → ℕ → Ends
net_of bag air g q = difference_of (scaled_by (pos q) bag) (product_of air (difference_of (exactly (pos q)) g))

-- "Corrected concentration, signed, 1/4,096 ppm: 16 (bag Q - air (Q - G)) / Q" (001, equations 8-3, 8-5, 8-7 and 8-11)
unfoldable pub concentration_of : Ends → Ends → Ends → ℕ → Ends
concentration_of bag air g q = divided_by (scaled_by (pos 16) (net_of bag air g q)) (pos q)

-- ---- mass
-- "Gas volume, microlitres: volume x concentration / 4,096,000" (with the mass and the rate: 001, equations 8-2, 8-4 and 8-10)
unfoldable pub gas_volume_of : Ends → Ends → Ends
gas_volume_of volume concentration = divided_by (product_of volume concentration) (pos 4096000)

-- "Mass, micrograms: gas volume x density / 10^6"
unfoldable pub mass_of : Ends → ℕ → Ends
mass_of gas density = divided_by (scaled_by (pos density) gas) (pos 1000000)

-- ---- humidity
-- "g = fields 6 x 7": the pressure of the vapour, in mPa
abbrev pub vapour_of : ℕ → ℕ → ℕ
vapour_of humidity saturation = humidity * saturation

-- "B = 1,000 Pa - g": the pressure of the dry air, in mPa
abbrev pub dry_of : ℕ → ℕ → ℕ → ℕ
dry_of humidity saturation barometer = 1000 * barometer - vapour_of humidity saturation

-- "H at most 30", where H = 6,211 g / (10 B) (001, equation 8-9)
unfoldable pub humidity_good : ℕ → ℕ → ℕ → Bool
humidity_good humidity saturation barometer = leb (6211 * vapour_of humidity saturation) (300 * dry_of humidity saturation barometer)

-- "Kh in 1/65,536, Kh = 10^6 B / (1,352,030 B - 20,434,519 g)", with 20,434,190 for 001's coefficient (equations 8-8 and 8-9)
unfoldable pub kh_of : ℕ → ℕ → ℕ → Ends
kh_of humidity saturation barometer =
    divided_by (exactly (pos (65536000000 * dry_of humidity saturation barometer)))
    (pos (1352030 * dry_of humidity saturation barometer - 20434190 * vapour_of humidity saturation))

-- "NOx: times Kh" (001, equation 8-6)
unfoldable pub nox_mass_of : Ends → Ends → Ends
nox_mass_of mass kh = divided_by (product_of mass kh) (pos 65536)

-- ---- rate
-- "Rate, micrograms/km: 1,000 x mass / distance"
unfoldable pub rate_of : Ends → ℕ → Ends
rate_of mass distance = divided_by (scaled_by (pos 1000) mass) (pos distance)
